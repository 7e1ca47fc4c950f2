pub mod Bytes
pub mod Reading
pub mod Sheet
pub mod Areas
pub mod Trunks
