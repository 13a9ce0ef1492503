pub mod Asked
pub mod Read
pub mod Lines
pub mod Apart
