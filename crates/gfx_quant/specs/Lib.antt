pub mod Quant
pub mod Coefficient
pub mod Colour
pub mod Planes
pub mod Setting
