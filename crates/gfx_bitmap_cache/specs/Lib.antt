pub mod Slots
pub mod Codes
pub mod Inside
pub mod Order
