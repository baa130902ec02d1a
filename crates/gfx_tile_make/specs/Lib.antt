pub mod Planes
pub mod Quantised
pub mod Source
pub mod Levels
pub mod Upgrade
pub mod Writing
pub mod Fitting
