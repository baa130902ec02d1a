pub mod Shape
pub mod Layout
pub mod Shapes
pub mod Reading
pub mod Laws
pub mod Writing
pub mod Header
