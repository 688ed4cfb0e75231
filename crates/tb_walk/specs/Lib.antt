pub mod Walk
pub mod Blame
pub mod Steps
