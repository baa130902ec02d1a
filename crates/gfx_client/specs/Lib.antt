pub mod Replies
pub mod Client
pub mod Standing
pub mod Wanting
