pub mod Maps
pub mod Totals
pub mod Ordered
pub mod Sound
pub mod Numbers
