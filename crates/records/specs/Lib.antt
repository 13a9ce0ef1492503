pub mod Range
pub mod Held
pub mod Outcome
pub mod Positions
