pub mod Laws
pub mod Expressions
pub mod Forms
pub mod Certificates
pub mod Promises
