pub mod Laws
pub mod Writing
pub mod Zeros
pub mod Padding
pub mod Ahead
pub mod Showing
