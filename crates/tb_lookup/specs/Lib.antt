pub mod Paths
pub mod Files
pub mod Builtins
pub mod Lookups
