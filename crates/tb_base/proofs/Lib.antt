pub mod Given
pub mod GrowthLaws
