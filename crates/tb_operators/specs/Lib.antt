pub mod Literals
pub mod Sides
pub mod Operators
pub mod Casts
