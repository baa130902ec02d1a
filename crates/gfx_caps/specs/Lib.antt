pub mod ClientId
pub mod Entries
pub mod Layouts
pub mod Reading
pub mod Spelling
pub mod Laws
pub mod Choice
pub mod Offers
