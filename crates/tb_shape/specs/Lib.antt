pub mod Tree
pub mod Entries
pub mod Nodes
pub mod Shape
