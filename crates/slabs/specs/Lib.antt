pub mod Slab
pub mod Topmost
pub mod Worked
