pub mod Orders
pub mod Lexicographic
pub mod Along
pub mod Told
pub mod Spanned
