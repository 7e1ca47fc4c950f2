pub mod Layers
pub mod Strikes
