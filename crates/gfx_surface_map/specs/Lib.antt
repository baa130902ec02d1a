pub mod Surfaces
pub mod Shown
pub mod Composed
pub mod Order
pub mod Inside
pub mod Lending
