pub mod Derefs
pub mod Fields
pub mod Elements
pub mod Borrows
pub mod Assignments
