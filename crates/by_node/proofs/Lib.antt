pub mod EndsLaws
pub mod CountLaws
pub mod FillLaws
pub mod RunLaws
pub mod IndexLaws
