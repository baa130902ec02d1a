-- A plan at the start of a session whose ends have bitmaps already ([MS-RDPEGFX] 3.2.5.13): this project's own rule.
use Rattle.std.specs.Prelude.{◌≡◌, ℕ, ◌+◌, ◌≤◌, ◌<◌, Bool, List, [], ◌∷◌, ◌++◌, length, None, Ok}
use Rattle.std.specs.List.{sum_by}
use Rattle.gfx_bitmap_cache.specs.Slots.{last_slot, budget, bytes_for}
use Rattle.gfx_slot_plan.specs.Plan.{Allocations, IsPlan, Plan, keeps, place, plan, slot_of}

-- keys with how many bytes their bitmaps take, in the order of their slots from this one on, and in front of others:
-- the last is the most recently used
abbrev pub placed_from : Allocations → ℕ → List (ℕ × ℕ) → Allocations
placed_from places at [] = places
placed_from places at (one ∷ more) = placed_from ((one.0, place at one.1) ∷ places) (at + 1) more

-- the plan with these keys in slots 1, 2 and so on
abbrev pub plan_with : List (ℕ × ℕ) → Bool → Plan
plan_with keys small = plan (placed_from [] 1 keys) small

-- keys are kept one after another in a plan with none: as long as there is a slot and room, each gets the next slot, and
-- none goes for it
abbrev pub KeepsInTurn : Type 0
KeepsInTurn =
    (small : Bool) (keys : List (ℕ × ℕ)) (key width height : ℕ) → IsPlan (plan_with keys small) → slot_of key (plan_with keys small).places ≡ None
    → length keys < last_slot small → sum_by (λ one. one.1) keys + bytes_for width height ≤ budget small
    → keeps (plan_with keys small) key width height
    ≡ Ok (plan_with (keys ++ (key, bytes_for width height) ∷ []) small, record { dropped = []; slot = length keys + 1 })
