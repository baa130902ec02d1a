pub mod Maps
pub mod Surfaces
pub mod Slots
pub mod Clear
pub mod Video
pub mod Progressive
pub mod Steps
