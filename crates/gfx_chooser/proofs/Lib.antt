pub mod Asking
pub mod Answering
pub mod Counting
pub mod Numbers
