pub mod ThicknessLaws
pub mod ToldLaws
pub mod Cases
