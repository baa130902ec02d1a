pub mod Plan
pub mod Codes
pub mod Pool
pub mod PoolInside
pub mod Tied
pub mod Started
pub mod Inside
pub mod History
