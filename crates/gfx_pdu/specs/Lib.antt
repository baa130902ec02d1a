pub mod Id
pub mod Layouts
pub mod Reading
pub mod Spelling
pub mod Laws
pub mod Codecs
pub mod Borrowed
pub mod Writing
