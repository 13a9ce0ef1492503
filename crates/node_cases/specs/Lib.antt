pub mod OneString
