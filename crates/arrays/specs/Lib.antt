pub mod Lists
pub mod Links
pub mod ByNode
pub mod Order
pub mod Grown
pub mod Kept
pub mod Records
pub mod Sheets
