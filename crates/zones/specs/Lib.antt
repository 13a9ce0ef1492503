pub mod Edges
pub mod Question
pub mod Register
pub mod Holdable
