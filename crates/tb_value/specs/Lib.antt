pub mod Kinds
pub mod Numbers
pub mod Scalars
pub mod Copies
pub mod Spread
pub mod Provs
