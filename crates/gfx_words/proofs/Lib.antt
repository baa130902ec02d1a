pub mod LineLemmas
pub mod LongWords
pub mod NumberLemmas
pub mod StandardFacts
pub mod WordLemmas
