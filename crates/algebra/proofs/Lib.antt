pub mod Ring
pub mod Range
pub mod Order
pub mod Identity
pub mod Sign
