pub mod Bytes
pub mod Chunks
pub mod Offers
pub mod Writes
