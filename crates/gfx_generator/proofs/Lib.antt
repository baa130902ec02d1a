pub mod Severals
pub mod Joining
pub mod Examples
