-- Fragments are joined to channel messages: the checks on a fragment, in their order, and what one that passes does.
-- The checks, their order and the limit are this project's own.
use Rattle.std.specs.Prelude.{◌≡◌, ℕ, ◌==◌, Bool, true, ◌&&◌, ◌||◌, nat_lt, nat_le, if◌then◌else◌, List, [], ◌∷◌, ◌++◌, length, Option, Some, None, is_some, is_none, Result, Ok, Err}
use Rattle.gfx_base.specs.Results.{◌>>=◌, check}
use Rattle.gfx_base.specs.declared.TheConstants.{MOST_MESSAGE}
use Rattle.gfx_base.specs.declared.answer.Cause.{Cause}
use Rattle.gfx_base.specs.declared.answer.Cause.TheVariants.{Refused, Memory}
use Rattle.gfx_base.specs.declared.refusal.Refusal.{Refusal}
use Rattle.gfx_base.specs.declared.refusal.Refusal.TheVariants.{ChannelTruncated, ChannelLength, FragmentLength, FragmentOrder, FragmentChannel}
use Rattle.gfx_dvc.specs.declared.fragment.Fragment.{Fragment}
use Rattle.gfx_dvc.specs.declared.open.Open.{Open}
use Rattle.gfx_dvc.specs.Format.{read_fragment}

-- what a joiner holds: the channel's id, once a fragment has told it; the message that is open, its total and the
-- bytes that have come; and the refusal that it keeps
pub record Joiner : Type 0 where
  pub channel : Option ℕ
  pub message : Option Open
  pub refusal : Option Refusal

-- nothing was taken yet
abbrev pub fresh : Joiner
fresh = record { channel = None; message = None; refusal = None }

-- a refusal is kept, and nothing else
abbrev pub refused : Refusal → Joiner
refused r = record { channel = None; message = None; refusal = Some r }

-- no message is open
abbrev pub idle : ℕ → Joiner
idle channel = record { channel = Some channel; message = None; refusal = None }

-- a message of this total is open
abbrev pub opened : ℕ → ℕ → List ℕ → Joiner
opened channel total bytes = record { channel = Some channel; message = Some (record { total = total; bytes = bytes }); refusal = None }

-- a refusal that is kept comes first
unfoldable pub none_kept : Option Refusal → Result (Unit {0}) Refusal
none_kept None = Ok tt
none_kept (Some r) = Err r

-- the id is that of the first fragment, by its value
abbrev pub is_of : Option ℕ → ℕ → Bool
is_of None id = true
is_of (Some first) id = id == first

-- a message opens only where none is open
abbrev pub is_in_order : Option Open → Option ℕ → Bool
is_in_order message total = is_none message || is_none total

-- a channel message may have so many bytes
abbrev pub is_length : ℕ → Bool
is_length size = nat_lt 0 size && nat_le size MOST_MESSAGE

-- a message that opens has such a total, and one that is alone in its fragment has bytes
abbrev pub is_sized : Option Open → Option ℕ → List ℕ → Bool
is_sized (Some message) total piece = true
is_sized None (Some total) piece = is_length total
is_sized None None piece = nat_lt 0 (length piece)

-- how many bytes the fragment's message has: as was said where it opened, else its own piece
abbrev pub whole : Option Open → Option ℕ → List ℕ → ℕ
whole (Some message) total piece = message.total
whole None (Some total) piece = total
whole None None piece = length piece

-- the bytes of the message up to the end of this fragment
abbrev pub so_far : Option Open → List ℕ → List ℕ
so_far None piece = piece
so_far (Some message) piece = message.bytes ++ piece

-- the checks on a fragment
unfoldable pub passed : Joiner → List ℕ → Result Fragment Refusal
passed joiner bytes = do
  kept ← none_kept joiner.refusal
  fragment ← read_fragment bytes
  channel ← check FragmentChannel (is_of joiner.channel fragment.header.channel)
  order ← check FragmentOrder (is_in_order joiner.message fragment.header.total)
  size ← check ChannelLength (is_sized joiner.message fragment.header.total fragment.piece)
  room ← check FragmentLength (nat_le (length (so_far joiner.message fragment.piece)) (whole joiner.message fragment.header.total fragment.piece))
  Ok fragment

-- a message's bytes so far: it is ended where they are its total, else it is open
unfoldable pub reached : ℕ → ℕ → List ℕ → Option (List ℕ) × Joiner
reached channel total bytes = if length bytes == total then (Some bytes, idle channel) else (None, opened channel total bytes)

-- the message that a fragment ends, which has passed, and the joiner after it
unfoldable pub put : Joiner → Fragment → Option (List ℕ) × Joiner
put joiner fragment =
    reached fragment.header.channel (whole joiner.message fragment.header.total fragment.piece) (so_far joiner.message fragment.piece)

-- what a fragment is answered, and the joiner after it
unfoldable pub step : Joiner → List ℕ → Result (Option (List ℕ) × Joiner) Refusal
step joiner bytes = do
  fragment ← passed joiner bytes
  Ok (put joiner fragment)

-- what a call answered and left, against the step that is due; want of memory leaves all as it was
abbrev pub Answers : Result (Option (List ℕ)) (Cause Refusal) → Joiner → Joiner → Result (Option (List ℕ) × Joiner) Refusal → Type 0
Answers (Ok given) old new due = due ≡ Ok (given, new)
Answers (Err Memory) old new due = new ≡ old
Answers (Err (Refused r)) old new due = (due ≡ Err r) × (new ≡ refused r)

-- the end of the fragments: no message may be open, where no refusal is kept
unfoldable pub ended : Joiner → Result (Unit {0}) Refusal
ended joiner = check ChannelTruncated (is_some joiner.refusal || is_none joiner.message)

-- the message of an answer, if there is one
abbrev pub given : Option (List ℕ) → List (List ℕ)
given None = []
given (Some message) = message ∷ []

-- what a step gave, and the joiner then; a refusal is kept
unfoldable pub turn_of : Result (Option (List ℕ) × Joiner) Refusal → List (List ℕ) × Joiner
turn_of (Ok done) = (given done.0, done.1)
turn_of (Err r) = ([], refused r)

abbrev pub turn : Joiner → List ℕ → List (List ℕ) × Joiner
turn joiner fragment = turn_of (step joiner fragment)

-- the messages that fragments end, one fragment after another, and the joiner behind them
abbrev pub messages_of : Joiner → List (List ℕ) → List (List ℕ)
messages_of joiner [] = []
messages_of joiner (fragment ∷ others) = (turn joiner fragment).0 ++ messages_of (turn joiner fragment).1 others

abbrev pub joiner_after : Joiner → List (List ℕ) → Joiner
joiner_after joiner [] = joiner
joiner_after joiner (fragment ∷ others) = joiner_after (turn joiner fragment).1 others
