-- What was done with a plan, and which keys were used before which: this project's own rule. It says what
-- "least recently used" means with no word of how a plan keeps its keys.
use Rattle.std.specs.Prelude.{◌≡◌, ◌≢◌, ℕ, suc, ◌<◌, ◌≤◌, Bool, false, nat_eq, List, [], ◌∷◌, length, take, Option, Some, None, IsSome, Result, Ok, if◌then◌else◌}
use Rattle.std.specs.List.{list_any}
use Rattle.gfx_base.specs.declared.refusal.Refusal.{Refusal}
use Rattle.gfx_base.specs.Results.{◌>>=◌}
use Rattle.gfx_bitmap_cache.specs.Slots.{last_slot, budget, bytes_for}
use Rattle.gfx_slot_plan.specs.declared.kept.Kept.{Kept}
use Rattle.gfx_slot_plan.specs.Plan.{Plan, plan, keeps, touched, forgotten, slot_of, takes_more, without}

-- a bitmap of these sides is kept under a key, a key is shown, a key is forgotten
pub data Event : Type 0 where
  Keep : ℕ → ℕ → ℕ → Event
  Show : ℕ → Event
  Forget : ℕ → Event

-- an event uses a key where it keeps it or shows it
abbrev pub uses : ℕ → Event → Bool
uses key (Keep kept width height) = nat_eq key kept
uses key (Show shown) = nat_eq key shown
uses key (Forget gone) = false

-- the number of the event that used a key last, counted from 1, or 0 if none did; the latest event stands first
abbrev pub last_use : ℕ → List Event → ℕ
last_use key [] = 0
last_use key (event ∷ earlier) = if uses key event then suc (length earlier) else last_use key earlier

-- the plan after one event, or the reason against it
unfoldable pub after_event : Plan → Event → Result Plan Refusal
after_event old (Keep key width height) = do
  kept ← keeps old key width height
  Ok kept.0
after_event old (Show key) = Ok (touched old key)
after_event old (Forget key) = Ok (forgotten old key)

-- the plan after all events, none of which was refused; at first there are no keys
unfoldable pub after_history : Bool → List Event → Result Plan Refusal
after_history small [] = Ok (plan [] small)
after_history small (event ∷ earlier) = do
  old ← after_history small earlier
  after_event old event

-- what is left of a key's slot once these slots are emptied
abbrev pub unless_dropped : List ℕ → Option ℕ → Option ℕ
unless_dropped dropped None = None
unless_dropped dropped (Some slot) = if list_any (nat_eq slot) dropped then None else Some slot

-- what the last event of a history, which kept a key, did to the other keys
pub record DropsByUse (history : List Event) (key bytes : ℕ) (old new : Plan) (kept : Kept) : Type 0 where
  -- each that went was used before each that is held
  pub by_use : (gone stays : ℕ) → gone ≢ key → IsSome (slot_of gone old.places) → slot_of gone new.places ≡ None
      → IsSome (slot_of stays new.places) → last_use gone history < last_use stays history
  -- exactly those went whose slots were emptied, and the others are where they were
  pub others : (other : ℕ) → other ≢ key → slot_of other new.places ≡ unless_dropped kept.dropped (slot_of other old.places)
  -- and none went that could have stayed: with one more there would have been no room
  pub needed : (more : ℕ) → length new.places ≤ more → more ≤ length (without key old.places)
      → takes_more (last_slot old.small) (budget old.small) bytes (take more (without key old.places)) ≡ false
  -- the key itself is in the slot that was told
  pub own : slot_of key new.places ≡ Some kept.slot

-- this holds of each key that is kept, whatever was done before
abbrev pub KeepsByUse : Type 0
KeepsByUse =
    (small : Bool) (earlier : List Event) (key width height : ℕ) (old new : Plan) (kept : Kept)
    → after_history small earlier ≡ Ok old → keeps old key width height ≡ Ok (new, kept)
    → DropsByUse (Keep key width height ∷ earlier) key (bytes_for width height) old new kept
