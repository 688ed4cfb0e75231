pub mod Meanings
pub mod Resolved
