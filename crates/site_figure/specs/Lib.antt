pub mod Judge
pub mod Halving
pub mod Figure
pub mod Promises
