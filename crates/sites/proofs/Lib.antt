pub mod Made
pub mod Adding
pub mod Inside
pub mod Orderly
