pub mod OrderLaws
pub mod GrowthLaws
pub mod BelowLaws
pub mod LinkLaws
