pub mod Window
pub mod Superseded
pub mod Hulls
pub mod Rule
pub mod Sparing
pub mod Index
