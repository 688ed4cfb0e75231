pub mod Heap
pub mod Answers
pub mod Retags
pub mod Calls
