pub mod Orders
pub mod Tuples
pub mod Arrays
pub mod Structs
