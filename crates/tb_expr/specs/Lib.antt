pub mod Exprs
pub mod Grammar
