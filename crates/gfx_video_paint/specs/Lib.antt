pub mod Video
pub mod Shown
pub mod Inside
