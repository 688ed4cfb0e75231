pub mod Splices
pub mod PartsLaws
pub mod NextRuns
pub mod Listing
pub mod Marking
pub mod Order
