pub mod Restricted
pub mod Stands
pub mod Folded
pub mod Allocs
pub mod Points
