pub mod Programs
pub mod Ends
pub mod ReportLaws
pub mod StageLaws
pub mod TellingLaws
