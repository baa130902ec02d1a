-- Whole channel messages, as a transport has them that keeps them apart: each without the length that stands before it in
-- a stream. What stands in a stream for one that is too long is this project's own rule.
use Rattle.std.specs.Prelude.{◌≡◌, ℕ, ◌<◌, ◌≤◌, List, [], ◌∷◌, ◌++◌, length, nat_le, if◌then◌else◌, Option, Some, None, Ok, ◌⊎◌}
use Rattle.std.specs.List.{AllByRecursion, flat_map}
use Rattle.gfx_base.specs.declared.TheConstants.{MOST_MESSAGE}
use Rattle.gfx_segment.specs.Framing.{Front, Whole, Short, Bad, front, prefixed, Given}

-- four bytes that are the length of no message
abbrev pub no_length : List ℕ
no_length = 255 ∷ 255 ∷ 255 ∷ 255 ∷ []

-- a message as a stream has it, behind its length; one that is too long for any is such a length and nothing else
unfoldable pub streamed_within : ℕ → List ℕ → List ℕ
streamed_within limit message = if nat_le (length message) limit then prefixed message else no_length

abbrev pub streamed : List ℕ → List ℕ
streamed message = streamed_within MOST_MESSAGE message

-- these bytes begin with no whole message
abbrev pub IsNotWhole : Front → Type 0
IsNotWhole (Whole message after) = ⊥
IsNotWhole Short = Unit {0}
IsNotWhole Bad = Unit {0}

-- of the bytes that are left, the message at the front was given, and those behind it are left; or there is none
abbrev pub GivesWhole : List ℕ → Option (List ℕ) → List ℕ → Type 0
GivesWhole old (Some message) new = front old ≡ Whole message new
GivesWhole old None new = IsNotWhole (front old) × (new ≡ old)

-- a message has some bytes, and not more than any may have
pub record IsMessage (message : List ℕ) : Type 0 where
  pub some : 0 < length message
  pub most : length message ≤ MOST_MESSAGE

-- messages in a stream, one after another, are given each whole, and then what follows them is left
abbrev pub AreGiven : Type 0
AreGiven =
    (messages : List (List ℕ)) (more : List ℕ) → AllByRecursion IsMessage messages → Given Ok (flat_map streamed messages ++ more) messages more

-- in a stream a message of no bytes, or too many, is a bad length
abbrev pub OthersAreBad : Type 0
OthersAreBad =
    (message more : List ℕ) → (length message ≡ 0) ⊎ (MOST_MESSAGE < length message) → front (streamed message ++ more) ≡ Bad
