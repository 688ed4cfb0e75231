pub mod Growth
pub mod Outside
pub mod Memory
pub mod MemoryTold
