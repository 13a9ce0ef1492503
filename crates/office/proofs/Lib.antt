pub mod Stored
pub mod Drawn
