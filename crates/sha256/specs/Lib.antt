pub mod Functions
pub mod Constants
pub mod Compression
pub mod Windows
pub mod Standard
pub mod Vectors
pub mod Parts
pub mod DigestBytes
