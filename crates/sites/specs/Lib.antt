pub mod Site
pub mod Question
pub mod Register
pub mod Holdable
