pub mod Blocks
pub mod Branches
pub mod Jumps
pub mod Loops
pub mod Statements
pub mod Prints
