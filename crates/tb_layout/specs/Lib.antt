pub mod Layout
pub mod LaysOut
pub mod Cells
pub mod Leaves
