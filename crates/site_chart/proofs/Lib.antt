pub mod SortedRecords
pub mod Extremes
pub mod Halves
pub mod DrawnTrees
pub mod HeldSites
