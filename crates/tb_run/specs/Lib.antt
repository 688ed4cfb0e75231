pub mod Carried
pub mod Held
pub mod Stepped
