pub mod PickLaws
pub mod ListingLaws
pub mod RoundLaws
pub mod ListOwed
pub mod ListAreaLaws
pub mod Cases
