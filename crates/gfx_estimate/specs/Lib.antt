pub mod Bands
pub mod BySize
pub mod Inner
pub mod Laws
pub mod Passes
pub mod Sizes
