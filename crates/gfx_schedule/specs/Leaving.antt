-- What is left out of a frame isn't missed: this project's own rule.
use Rattle.std.specs.Prelude.{◌≡◌, ◌≤◌, ◌⊎◌, ◌+◌, ℕ, List, [], ◌∷◌, drop, fold, length, map, Option, Some, Ok, if◌then◌else◌}
use Rattle.std.specs.List.{filter_map, slice_get}
use Rattle.gfx_planner.specs.Wanted.{Wanted}
use Rattle.gfx_planner.specs.Want.{wanted_after}
use Rattle.gfx_planner.specs.Allowed.{kinded_at}
use Rattle.gfx_script.specs.Checks.{Held, held_through}
use Rattle.gfx_script.specs.Kinds.{KindedStep}
use Rattle.gfx_script.specs.Scripted.{Script}
use Rattle.gfx_window.specs.Superseded.{plain_area, is_left_out, superseded}
use Rattle.gfx_window.specs.declared.window.Queued.{Queued}

-- the step of a pending item, as it goes
abbrev pub step_of : Script → Queued → Option KindedStep
step_of script item = kinded_at script.steps item.step item.kind

-- the steps of pending items, in their order, without items that are no step of the script
abbrev pub steps_of : Script → List Queued → List KindedStep
steps_of script items = filter_map (step_of script) items

-- pending items without those that a later one covers
unfoldable pub kept : Script → List Queued → List Queued
kept script [] = []
kept script (item ∷ behind) =
    if is_left_out script (plain_area script item) behind then kept script behind else item ∷ kept script behind

-- a walk over the places of pending items, from 0 on, which passes over each that is superseded, finds
-- those that are kept
pub record KeepsByPlace (script : Script) (pending : List Queued) : Type 0 where
  pub each : (place : ℕ) (item : Queued) → slice_get pending place ≡ Some item
      → kept script (drop place pending)
      ≡ (if superseded script pending place then kept script (drop (place + 1) pending) else item ∷ kept script (drop (place + 1) pending))
  pub last : (place : ℕ) → length pending ≤ place → kept script (drop place pending) ≡ []

-- so of every list
abbrev pub LeavingIsSuperseding : Type 0
LeavingIsSuperseding = (script : Script) (pending : List Queued) → KeepsByPlace script pending

-- what is wanted, whatever it is, is the same after the items that are kept as after all of them: each
-- surface with each pixel, the output, what is mapped to it, the bitmaps with their slots, and the tiles that
-- may be raised
abbrev pub LeavingIsNotSeen : Type 0
LeavingIsNotSeen =
    (script : Script) (wanted : Wanted) (items : List Queued)
    → fold (wanted_after script) wanted (steps_of script (kept script items)) ≡ fold (wanted_after script) wanted (steps_of script items)

-- what steps leave, where the checks of each hold on what the steps before it leave, is left by the items
-- that are kept, and the checks of each hold
abbrev pub LeavingIsAllowed : Type 0
LeavingIsAllowed =
    (script : Script) (held after : Held) (items : List Queued)
    → held_through held (map (λ one. one.step) (steps_of script items)) ≡ Ok after
    → held_through held (map (λ one. one.step) (steps_of script (kept script items))) ≡ Ok after

-- these are some of the others, in their order
abbrev pub AreAmong : {A : Type 0} → List A → List A → Type 0
AreAmong [] all = Unit {0}
AreAmong (x ∷ some) [] = ⊥
AreAmong (x ∷ some) (y ∷ all) = ((x ≡ y) × AreAmong some all) ⊎ AreAmong (x ∷ some) all

-- nothing is kept that wasn't there, and nothing changes its place
abbrev pub LeavingOnlyLeaves : Type 0
LeavingOnlyLeaves =
    (script : Script) (pending : List Queued)
    → AreAmong (kept script pending) pending × AreAmong (steps_of script (kept script pending)) (steps_of script pending)
