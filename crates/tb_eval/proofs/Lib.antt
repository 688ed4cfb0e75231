pub mod Texts
pub mod Soundness
