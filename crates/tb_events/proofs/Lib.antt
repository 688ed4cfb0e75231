pub mod Keeping
pub mod Making
pub mod Drawing
pub mod Ending
pub mod Counting
