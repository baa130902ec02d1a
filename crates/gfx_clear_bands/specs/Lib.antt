pub mod Bars
pub mod Bands
pub mod Canvas
pub mod Inner
pub mod Writing
pub mod ReadBack
pub mod Pixels
