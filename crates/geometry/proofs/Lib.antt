pub mod Parts
pub mod Accepted
pub mod LiesUnder
pub mod Comparing
