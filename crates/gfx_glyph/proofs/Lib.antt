pub mod Same
pub mod Entering
pub mod Finding
pub mod Numbers
