pub mod TreeLaws
pub mod SheetLaws
pub mod NetworkLaws
