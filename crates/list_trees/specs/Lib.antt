pub mod Sides
pub mod Trees
