pub mod HexWords
pub mod Verbs
