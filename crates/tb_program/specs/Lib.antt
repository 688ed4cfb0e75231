pub mod Pieces
pub mod Types
pub mod Operands
pub mod Rvalues
pub mod Lines
pub mod Texts
