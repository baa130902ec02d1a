pub mod Choosing
pub mod Facts
pub mod Kinded
pub mod Laws
pub mod Seen
