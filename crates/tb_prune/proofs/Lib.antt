pub mod Children
pub mod Rounds
pub mod Turns
pub mod GuardLaws
