pub mod Cut
pub mod Edge
pub mod Found
pub mod Due
pub mod Turns
pub mod Laws
