-- What holds of `fragment` and `join`: this project's own promises.
use Rattle.std.specs.Prelude.{◌≡◌, ℕ, ◌+◌, ◌<◌, ◌≤◌, List, [], length, Some}
use Rattle.std.specs.List.{flat_map, AllByRecursion}
use Rattle.gfx_base.specs.declared.TheConstants.{MOST_MESSAGE}
use Rattle.gfx_base.specs.declared.refusal.Refusal.{Refusal}
use Rattle.gfx_dvc.specs.Cutting.{recorded_fragment, recorded, IsRecordable}
use Rattle.gfx_dvc.specs.Joining.{Joiner}
use Rattle.gfx_dvc.specs.Joined.{Ended, Joined}
use Rattle.gfx_segment.specs.Framing.{prefixed}
use Rattle.gfx_fragments.specs.Due.{Due, counted, due_in}
use Rattle.gfx_fragments.specs.Found.{fragmented, joined, fragments_due, joined_due}
use Rattle.gfx_fragments.specs.declared.ended.Ended.TheVariants.{Done, Refused}

-- a channel message, and a stream of such messages, each behind its length
abbrev pub IsMessage : List ℕ → Type 0
IsMessage message = (0 < length message) × (length message ≤ MOST_MESSAGE)

abbrev pub stream_of : List (List ℕ) → List ℕ
stream_of messages = flat_map prefixed messages

-- what is due of an input that is taken whole: this text, and no fault
abbrev pub whole_due : List ℕ → Due
whole_due text = record { text = text; ending = Done }

-- where both the stream and its recording of fragments are within the limit, `join` of `fragment` is the stream
pub record ComesBack (limit : ℕ) (stream : List ℕ) : Type 0 where
  pub cut : due_in fragmented limit stream ≡ whole_due (fragments_due stream)
  pub joined : due_in joined limit (fragments_due stream) ≡ whole_due stream

abbrev pub StreamComesBack : Type 0
StreamComesBack =
    (limit : ℕ) (messages : List (List ℕ)) → AllByRecursion IsMessage messages → length (stream_of messages) ≤ limit
    → length (fragments_due (stream_of messages)) ≤ limit → ComesBack limit (stream_of messages)

-- a stream's recording has its messages, one after another, as the writer cuts each
abbrev pub WritesEach : Type 0
WritesEach = (messages : List (List ℕ)) → AllByRecursion IsMessage messages → fragments_due (stream_of messages) ≡ flat_map recorded messages

-- fragments, each behind its length
abbrev pub recording_of : List (List ℕ) → List ℕ
recording_of fragments = flat_map recorded_fragment fragments

-- whatever the fragments: the messages that are joined of them are written
abbrev pub WritesJoined : Type 0
WritesJoined =
    (fragments messages : List (List ℕ)) (joiner : Joiner) → AllByRecursion IsRecordable fragments → Joined fragments messages joiner
    → (joined_due (recording_of fragments) ≡ stream_of messages) × ((joined (recording_of fragments)).refusal ≡ joiner.refusal)

-- and the first fragment that is refused is named, by its number from 1, with the refusal of the joiner behind those
-- that were accepted
abbrev pub NamesRefused : Type 0
NamesRefused =
    (limit : ℕ) (fragments messages : List (List ℕ)) (joiner : Joiner) (refusal : Refusal) → AllByRecursion IsRecordable fragments
    → (joining : Joined fragments messages joiner) → joiner.refusal ≡ Some refusal → length (recording_of fragments) ≤ limit
    → due_in joined limit (recording_of fragments) ≡ record { text = stream_of messages; ending = Refused (counted (length joining.accepted + 1)) refusal }

-- messages whose fragments were cut in any way are written whole, and nothing is refused
abbrev pub AnyCutting : Type 0
AnyCutting =
    (limit channel : ℕ) (fragments messages : List (List ℕ)) → AllByRecursion IsRecordable fragments → Ended channel fragments messages []
    → length (recording_of fragments) ≤ limit → due_in joined limit (recording_of fragments) ≡ whole_due (stream_of messages)
