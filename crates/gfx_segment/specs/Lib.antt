pub mod Framing
pub mod Edge
pub mod Pieces
pub mod Payloads
pub mod Whole
