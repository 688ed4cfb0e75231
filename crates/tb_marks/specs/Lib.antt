pub mod Marks
pub mod Event
pub mod Stages
pub mod Changes
