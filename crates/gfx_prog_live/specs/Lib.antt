pub mod Cells
pub mod Tiles
pub mod Live
pub mod Raising
pub mod Places
pub mod Showing
pub mod Codes
pub mod Inside
