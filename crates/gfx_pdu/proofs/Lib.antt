pub mod Sizes
pub mod Bodies
pub mod Framing
pub mod Laws
pub mod Fronts
