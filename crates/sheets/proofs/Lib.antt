pub mod Earlier
pub mod Gathering
pub mod Soundness
pub mod Writes
