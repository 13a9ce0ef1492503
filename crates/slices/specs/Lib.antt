pub mod Order
pub mod Insertion
pub mod Removal
pub mod Runs
pub mod Stacks
