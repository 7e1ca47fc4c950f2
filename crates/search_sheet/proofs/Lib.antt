pub mod ToComeLaws
pub mod SideLaws
