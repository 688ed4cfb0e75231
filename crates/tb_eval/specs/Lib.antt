pub mod Value
pub mod Print
pub mod Step
pub mod Run
pub mod Sound
