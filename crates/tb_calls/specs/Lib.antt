pub mod Rows
pub mod Functions
pub mod Built
pub mod Paths
pub mod Drops
pub mod Names
pub mod Methods
