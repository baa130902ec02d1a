pub mod Accepted
pub mod Message
pub mod Taken
