pub mod Placing
pub mod Ranges
pub mod Marking
pub mod Walking
