pub mod MarkLemmas
pub mod DamageLemmas
pub mod OpeningLemmas
pub mod WantLemmas
