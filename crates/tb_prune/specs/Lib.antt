pub mod Guards
pub mod Visits
pub mod Rounds
