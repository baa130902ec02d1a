pub mod Glyphs
pub mod Index
pub mod Inside
