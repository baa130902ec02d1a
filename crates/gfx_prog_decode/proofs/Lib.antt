pub mod Keys
pub mod Ties
mod Lent
mod Begun
mod Maps
pub mod Pictures
mod CellLemmas
mod Undoing
mod Areas
mod Whole
mod Bases
mod Tiles
mod Steps
pub mod Sides
pub mod Numbers
mod Ones
