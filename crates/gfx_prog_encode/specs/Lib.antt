pub mod Messages
pub mod Inside
