pub mod Provs
pub mod Cuts
pub mod Stacks
pub mod Calls
