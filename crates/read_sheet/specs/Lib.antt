pub mod TreesRead
pub mod SheetRead
