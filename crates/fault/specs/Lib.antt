pub mod Layers
pub mod Carrying
