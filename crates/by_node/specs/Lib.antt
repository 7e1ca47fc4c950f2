pub mod Runs
pub mod Index
