pub mod Flows
pub mod Questions
pub mod Summaries
pub mod Equations
pub mod Laws
