pub mod Names
pub mod Limits
pub mod Repeats
pub mod Main
