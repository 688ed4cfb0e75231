pub mod Answering
pub mod Releasing
