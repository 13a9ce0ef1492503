pub mod Chains
pub mod Popping
pub mod Written
pub mod Compared
pub mod Beginning
