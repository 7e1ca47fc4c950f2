pub mod Choice
pub mod Visits
