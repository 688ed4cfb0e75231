pub mod Sweep
pub mod Plain
pub mod Bytes
pub mod Fits
pub mod Changes
pub mod Pruning
