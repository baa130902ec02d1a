-- No check of a step reads a pixel: this project's own law.
use Rattle.std.specs.Prelude.{◌≡◌, ℕ, Bool, true, List, Ok}
use Rattle.std.specs.Ordering.{nat_cmp}
use Rattle.std.specs.FinMap.{FinMap}
use Rattle.gfx_bitmap_cache.specs.Slots.{Entry}
use Rattle.gfx_state.specs.State.{State, started_with}
use Rattle.gfx_state.specs.Same.{Wider, StepsAlike}
use Rattle.gfx_state.specs.Alike.{Alike, entry_outline, outlines}
use Rattle.gfx_state.specs.Step.{caps_confirmed, has_small_cache}

-- each message that a state accepts is accepted by those that differ from it in pixels alone, and so do the two after it
abbrev pub NoCheckReadsAPixel : Type 0
NoCheckReadsAPixel = StepsAlike Alike

-- states that are equal but for the word small are among them
abbrev pub WiderIsAlike : Type 0
WiderIsAlike = (s t : State) → Wider s t → Alike s t

-- so are the states at two starts with bitmaps of the same keys and sides in the same slots
abbrev pub StartsAreAlike : Type 0
StartsAreAlike =
    (these those : FinMap nat_cmp Entry) (small : Bool) → outlines entry_outline these ≡ outlines entry_outline those
    → Alike (started_with these small) (started_with those small)

-- the confirmation of a version changes the word small alone
abbrev pub ConfirmedIsAlike : Type 0
ConfirmedIsAlike =
    (s t : State) (version : ℕ) (flags : List ℕ) (after : State) → caps_confirmed t version flags ≡ Ok after
    → (has_small_cache flags ≡ true → s.cache.small ≡ true) → Alike s t → Alike s after
