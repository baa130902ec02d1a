pub mod ShapeLaws
pub mod LayoutLaws
pub mod FoundLaws
pub mod PartLists
pub mod Fitting
pub mod EachLoops
pub mod Headers
