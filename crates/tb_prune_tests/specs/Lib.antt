pub mod Ready
pub mod Alike
