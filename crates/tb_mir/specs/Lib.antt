pub mod Mir
pub mod Ty
pub mod Retags
