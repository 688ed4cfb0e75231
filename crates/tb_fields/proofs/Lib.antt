mod Completing
mod Making
pub mod Defining
mod Finishing
