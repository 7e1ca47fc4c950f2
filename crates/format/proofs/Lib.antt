pub mod MapLaws
pub mod NumberLaws
pub mod PutLaws
pub mod RefusalLaws
