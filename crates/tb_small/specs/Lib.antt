pub mod Words
pub mod Scope
pub mod Grammar
pub mod Reading
