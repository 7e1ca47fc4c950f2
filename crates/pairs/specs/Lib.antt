pub mod Slots
pub mod Pairs
pub mod PairsWritten
