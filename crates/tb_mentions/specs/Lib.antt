pub mod Heads
pub mod Variables
pub mod Meanings
pub mod Walks
