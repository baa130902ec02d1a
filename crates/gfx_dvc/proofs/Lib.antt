pub mod PassedLemmas
pub mod LeadLemmas
pub mod JoinedLemmas
pub mod CutLemmas
pub mod OneJoiningLemmas
pub mod RecordingLemmas
pub mod Numbers
pub mod StandardFacts
