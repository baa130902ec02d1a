pub mod FrontLemmas
pub mod FoundLemmas
pub mod TurnLemmas
pub mod EndLemmas
pub mod Numbers
