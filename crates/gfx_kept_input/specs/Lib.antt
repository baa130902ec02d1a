pub mod Front
pub mod Split
pub mod Allowed
pub mod Due
pub mod Taking
