pub mod LayerLaws
pub mod StrikeLaws
pub mod CrossLaws
