pub mod Judge
pub mod Halving
pub mod Bounds
pub mod Slab
pub mod Figure
pub mod Promises
pub mod Worked
