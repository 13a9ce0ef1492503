pub mod Fraction
pub mod Edge
pub mod Conflict
pub mod Held
pub mod Rank
pub mod RankOrder
pub mod FractionOrder
pub mod Lexicographic
