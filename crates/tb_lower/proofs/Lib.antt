pub mod Numbered
pub mod Clears
pub mod Loops
pub mod Counted
pub mod Readiness
pub mod Bare
pub mod Ends
