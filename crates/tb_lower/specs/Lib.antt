pub mod Ways
pub mod Lowering
pub mod Pieces
pub mod Ready
