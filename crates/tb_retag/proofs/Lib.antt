pub mod Retagged
