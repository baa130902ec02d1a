pub mod Code
pub mod Rlgr
pub mod Bound
pub mod Steps
pub mod Says
pub mod Writes
