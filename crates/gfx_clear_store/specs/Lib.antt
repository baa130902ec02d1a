pub mod Rings
pub mod Undoing
pub mod LogInside
pub mod Home
pub mod Index
pub mod RingInside
pub mod StoreInside
