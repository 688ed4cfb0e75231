pub mod Settling
pub mod Leaves
pub mod Ones
pub mod Twos
pub mod Lists
