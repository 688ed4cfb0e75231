pub mod Memory
pub mod Sound
pub mod Calls
pub mod Guarding
