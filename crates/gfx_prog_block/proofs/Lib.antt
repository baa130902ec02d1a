pub mod Frames
pub mod BlockLoops
pub mod TileLaws
pub mod RegionLaws
pub mod BlockLaws
pub mod WritingLaws
pub mod StandardFacts
pub mod Numbers
