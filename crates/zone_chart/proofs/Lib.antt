pub mod Fit
pub mod Gathering
pub mod Distinct
pub mod Halved
pub mod EdgeTrees
pub mod RunTrees
pub mod HeldEdges
