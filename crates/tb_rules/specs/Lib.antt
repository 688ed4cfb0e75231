pub mod Kinds
pub mod Nodes
pub mod Answers
pub mod Made
pub mod Allowed
pub mod Scalars
pub mod Coercions
pub mod Fits
