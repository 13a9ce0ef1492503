pub mod Adding
pub mod Conflicts
pub mod Looking
pub mod Orderly
