pub mod Counted
pub mod Meeting
pub mod Numbers
pub mod Streams
