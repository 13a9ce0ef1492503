pub mod Chain
pub mod Sheets
pub mod Publishing
pub mod Proving
pub mod Checking
pub mod Comparing
pub mod Meaning
