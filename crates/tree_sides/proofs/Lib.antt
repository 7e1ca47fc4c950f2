pub mod CountLaws
pub mod NodeLaws
