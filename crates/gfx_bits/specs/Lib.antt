pub mod Bits
pub mod Padding
pub mod Ahead
