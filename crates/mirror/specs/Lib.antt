pub mod Steps
pub mod Positions
pub mod Comparisons
