pub mod Kinds
pub mod Stones
pub mod Lawful
