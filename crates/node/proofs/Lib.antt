pub mod Buffers
pub mod Joining
pub mod Encodings
pub mod StringWrites
pub mod Integers
pub mod ShortStrings
pub mod KindTable
