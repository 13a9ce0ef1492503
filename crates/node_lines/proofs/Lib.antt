pub mod Showing
pub mod Turns
pub mod Nodes
