pub mod Sides
pub mod NodeLayers
