pub mod Hashing
pub mod Parts
