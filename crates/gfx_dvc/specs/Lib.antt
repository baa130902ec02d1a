pub mod Format
pub mod Joining
pub mod Joined
pub mod Laws
pub mod Cutting
pub mod Recording
