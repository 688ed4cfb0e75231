pub mod Memory
pub mod Access
pub mod Sound
pub mod Entries
