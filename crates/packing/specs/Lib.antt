pub mod Loads
pub mod Verdicts
