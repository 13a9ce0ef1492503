pub mod Constants
pub mod Mixing
pub mod Standard
pub mod Vectors
pub mod Parts
pub mod DigestBytes
