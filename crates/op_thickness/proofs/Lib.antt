pub mod NetworkLaws
pub mod StepLaws
