pub mod Xdr
pub mod Strings
pub mod Kinds
pub mod Writing
pub mod Sizes
