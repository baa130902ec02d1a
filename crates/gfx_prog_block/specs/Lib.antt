pub mod Shapes
pub mod Kinds
pub mod Layouts
pub mod Reading
pub mod Spelling
pub mod Fitting
pub mod Laws
