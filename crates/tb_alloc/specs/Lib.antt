pub mod Allocations
pub mod Check
pub mod Kept
pub mod Offset
pub mod Free
