pub mod Marks
pub mod Damage
pub mod Codes
pub mod Inside
pub mod Drawing
pub mod Memory
pub mod History
