pub mod Search
pub mod Climb
pub mod Counts
pub mod Changes
pub mod Keep
pub mod Uses
