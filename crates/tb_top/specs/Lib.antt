pub mod Words
pub mod Report
pub mod Told
pub mod Program
pub mod Output
pub mod Reading
pub mod Conclusion
pub mod Stages
