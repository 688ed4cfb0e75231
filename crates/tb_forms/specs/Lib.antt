pub mod Beginnings
pub mod Levels
pub mod Trees
pub mod Fronts
pub mod Steps
pub mod Closings
pub mod Wants
