pub mod Draws
pub mod Steps
pub mod Rounds
pub mod Texts
pub mod Script
