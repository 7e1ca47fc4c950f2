pub mod NodeLaws
pub mod OutputLaws
pub mod Cases
pub mod Sold
