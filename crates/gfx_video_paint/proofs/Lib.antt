pub mod Sent
pub mod Groups
pub mod Cover
pub mod Limits
mod Making
