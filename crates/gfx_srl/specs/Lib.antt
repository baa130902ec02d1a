pub mod Code
pub mod Srl
pub mod Steps
pub mod Says
pub mod Writes
