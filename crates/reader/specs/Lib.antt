pub mod Parts
pub mod Faults
pub mod Views
pub mod Reading
pub mod LookedFor
pub mod RoundTrips
