-- What is found in an input of `fragment` or `join`: what is written of it, and why it is refused. This project's own
-- rule.
use Rattle.std.specs.Prelude.{ℕ, Bool, not, ◌||◌, ◌==◌, if◌then◌else◌, List, [], ◌∷◌, length, Option, Some, None, is_some}
use Rattle.std.specs.List.{flat_map}
use Rattle.gfx_base.specs.declared.refusal.Refusal.{Refusal}
use Rattle.gfx_base.specs.declared.refusal.Refusal.TheVariants.{ChannelTruncated, ChannelLength}
use Rattle.gfx_dvc.specs.Cutting.{recorded}
use Rattle.gfx_dvc.specs.Joining.{Joiner, fresh, turn, messages_of, joiner_after}
use Rattle.gfx_segment.specs.Framing.{prefixed}
use Rattle.gfx_fragments.specs.Cut.{Next, One, Few, Wrong, next_message, next_fragment, Cut, cut}

-- what is found in bytes, behind which more may come
pub record Found : Type 0 where
  -- what is written
  pub text : List ℕ
  -- how many channel messages, or fragments, were taken
  pub count : ℕ
  -- why the next of them is refused
  pub refusal : Option Refusal
  -- whether one is begun, or a message is open, that isn't whole
  pub is_open : Bool

-- the first of two refusals
abbrev pub first_of : Option Refusal → Option Refusal → Option Refusal
first_of None second = second
first_of (Some first) second = Some first

-- a length that no item has is refused as soon as it is there
abbrev pub wrong_in : Next → Option Refusal
wrong_in (One item after) = None
wrong_in Few = None
wrong_in Wrong = Some ChannelLength

abbrev pub has_bytes : List ℕ → Bool
has_bytes bytes = not (length bytes == 0)

-- the messages of a stream as a recording of fragments
abbrev pub fragments_text : List (List ℕ) → List ℕ
fragments_text messages = flat_map recorded messages

-- what `fragment` finds in a stream: each whole message is recorded as fragments
abbrev pub fragmented_of : Cut → Found
fragmented_of c = record {
  text = fragments_text c.items;
  count = length c.items;
  refusal = wrong_in (next_message c.rest);
  is_open = has_bytes c.rest;
}

unfoldable pub fragmented : List ℕ → Found
fragmented bytes = fragmented_of (cut next_message bytes)

-- the messages that fragments end as a stream
abbrev pub joined_text : List (List ℕ) → List ℕ
joined_text fragments = flat_map prefixed (messages_of fresh fragments)

-- the fragments before the first that a joiner refuses
abbrev pub passed_by : Joiner → List (List ℕ) → List (List ℕ)
passed_by joiner [] = []
passed_by joiner (fragment ∷ others) =
    if is_some (turn joiner fragment).1.refusal then [] else fragment ∷ passed_by (turn joiner fragment).1 others

-- what `join` finds in a recording of fragments: each message that they end is written
abbrev pub joined_of : Cut → Found
joined_of c = record {
  text = joined_text c.items;
  count = length (passed_by fresh c.items);
  refusal = first_of (joiner_after fresh c.items).refusal (wrong_in (next_fragment c.rest));
  is_open = is_some (joiner_after fresh c.items).message || has_bytes c.rest;
}

unfoldable pub joined : List ℕ → Found
joined bytes = joined_of (cut next_fragment bytes)

-- the recording of fragments of a stream, and the stream of a recording of fragments, as far as they aren't refused
abbrev pub fragments_due : List ℕ → List ℕ
fragments_due bytes = (fragmented bytes).text

abbrev pub joined_due : List ℕ → List ℕ
joined_due bytes = (joined bytes).text

-- at the end of the input nothing may be left that isn't whole
abbrev pub left_open : Bool → Option Refusal
left_open is_open = if is_open then Some ChannelTruncated else None

abbrev pub ended : Found → Found
ended found = record found { refusal = first_of found.refusal (left_open found.is_open) }
