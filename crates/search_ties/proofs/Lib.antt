pub mod CellLaws
pub mod MarkLaws
pub mod TableLaws
