pub mod Streams
pub mod ResultLemmas
pub mod FieldLemmas
pub mod MapLemmas
pub mod Numbers
pub mod Blocks
pub mod Palettes
pub mod Wanting
