pub mod Counts
pub mod Seeds
pub mod Bounds
pub mod Reached
pub mod Spread
pub mod Outcomes
