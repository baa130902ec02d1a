pub mod ReplyLemmas
pub mod NextEffects
pub mod ClientLemmas
pub mod Playing
pub mod Noting
pub mod Bringing
pub mod Beginning
pub mod Wants
