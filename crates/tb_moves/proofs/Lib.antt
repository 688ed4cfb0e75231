pub mod Copies
pub mod Orders
pub mod Least
pub mod Ordered
pub mod Moved
