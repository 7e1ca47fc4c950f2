pub mod Thickness
pub mod ThicknessTold
