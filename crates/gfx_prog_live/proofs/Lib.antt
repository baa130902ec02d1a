mod InPlace
pub mod Ending
mod Taking
mod Seeking
mod Visiting
pub mod Raising
pub mod Groups
mod Making
pub mod Ranges
pub mod Settings
