pub mod Ranges
pub mod SmallZones
pub mod SmallSites
