pub mod Phases
pub mod Search
pub mod Seen
pub mod Visits
