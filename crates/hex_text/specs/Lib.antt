pub mod Hex
pub mod Digest
pub mod ReadBack
