pub mod SlotLaws
pub mod SlottedLaws
pub mod SortingLaws
pub mod CellLaws
pub mod TieLaws
