pub mod Sets
pub mod Orders
pub mod Reaching
