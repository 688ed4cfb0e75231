pub mod Tables
pub mod Ways
pub mod Sound
pub mod Trees
