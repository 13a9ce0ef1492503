pub mod Number
pub mod Words
pub mod Fields
pub mod Command
pub mod Growth
pub mod Lines
pub mod ReadBack
