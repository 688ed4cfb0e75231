pub mod Bounds
pub mod Spreading
pub mod Steps
pub mod Kept
