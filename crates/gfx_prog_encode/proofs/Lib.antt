pub mod Lists
pub mod Codes
pub mod Regions
pub mod Numbers
