pub mod Picks
pub mod Listing
pub mod Rounds
pub mod ListArea
