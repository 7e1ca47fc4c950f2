pub mod Slots
pub mod Ties
