pub mod RecordLaws
pub mod LinksLaws
pub mod TrunkLaws
