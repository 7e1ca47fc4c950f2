pub mod SlotLaws
pub mod PairLaws
pub mod WrittenLaws
pub mod Cases
