-- Where the places of items are kept, so that few are looked at to find one that covers a write: this project's own rule.
-- Nothing that is answered depends on it.
use Rattle.std.specs.Prelude.{◌≡◌, ℕ, ◌+◌, ◌-◌, ◌*◌, ◌/◌, ◌%◌, ◌<◌, ◌≤◌, Bool, true, false, ◌&&◌, ◌||◌, ◌==◌, nat_le, nat_lt, List, [], ◌∷◌, length, map, slice_get, slice_index_or, Vec, if◌then◌else◌, Option, Some, None}
use Rattle.std.specs.declared.alloc.Global.{Global}
use Rattle.std.specs.List.{Contains, list_any}
use Rattle.std.specs.Option.{option_and_then}
use Rattle.gfx_script.specs.Scripted.{Script}
use Rattle.gfx_script.specs.Writes.{Area}
use Rattle.gfx_window.specs.declared.covering.Hull.{Hull}
use Rattle.gfx_window.specs.declared.index.Sought.{Sought}
use Rattle.gfx_window.specs.declared.index.TheConstants.{SIDES}
use Rattle.gfx_window.specs.declared.window.Queued.{Queued}
use Rattle.gfx_window.specs.Superseded.{plain_area, stands_aside, superseded}
use Rattle.gfx_window.specs.Hulls.{hull_of, hull_covers}

-- the places in a list
abbrev pub those : List (Vec ℕ Global) → ℕ → List ℕ
those lists home = slice_index_or (map (λ v. v.items) lists) home []

-- the number of the square of this side along one axis
unfoldable pub cell : ℕ → ℕ → ℕ
cell side at = if side == 0 then 0 else at / side

-- the list of a square
unfoldable pub spot : ℕ → ℕ → ℕ → ℕ → ℕ
spot count side x y = (side + (x * 7919 + y * 50021)) % count

-- a hull is no longer than a side
abbrev pub fits : ℕ → Hull → Bool
fits side hull = nat_lt 0 side && (nat_le (hull.right - hull.left) side && nat_le (hull.bottom - hull.top) side)

-- the list of a hull: that of its corner's square, of the first of these sides that it fits
unfoldable pub home_in : ℕ → Hull → List ℕ → ℕ
home_in count hull [] = 0
home_in count hull (side ∷ sides) =
    if fits side hull then spot count side (cell side hull.left) (cell side hull.top) else home_in count hull sides

abbrev pub home_of : ℕ → Hull → ℕ
home_of count hull = home_in count hull SIDES

-- the item at a place writes here, if it is a plain write
abbrev pub area_at : Script → List Queued → ℕ → Option Area
area_at script items place = option_and_then (plain_area script) (slice_get items place)

-- the item at a place is looked for, and covers the write
unfoldable pub hits : Script → List Queued → Sought → ℕ → Bool
hits script items sought place =
    if nat_lt place sought.from then false
    else if nat_le sought.limit place then false
    else hull_covers sought.write (area_at script items place)

-- one is in the list of a square
abbrev pub looks : Script → List Queued → Sought → List (Vec ℕ Global) → ℕ → ℕ → ℕ → Bool
looks script items sought lists side x y = list_any (hits script items sought) (those lists (spot (length lists) side x y))

-- one is in one of the four squares of which this is the lower right one
abbrev pub looks_around : Script → List Queued → Sought → List (Vec ℕ Global) → ℕ → ℕ → ℕ → Bool
looks_around script items sought lists side x y =
    looks script items sought lists side x y || (looks script items sought lists side (x - 1) y
    || (looks script items sought lists side x (y - 1) || looks script items sought lists side (x - 1) (y - 1)))

-- one is in the square of this side that the corner lies in, or in one left of it or above it
unfoldable pub near : Script → List Queued → Sought → List (Vec ℕ Global) → ℕ → Bool
near script items sought lists side = looks_around script items sought lists side (cell side sought.hull.left) (cell side sought.hull.top)

-- one is in one of the lists where it may be
unfoldable pub found : Script → List Queued → Sought → List (Vec ℕ Global) → Bool
found script items sought lists =
    list_any (near script items sought lists) SIDES || list_any (hits script items sought) (those lists 0)

-- a place is entered by a hull, and all that was there is
pub record Enters (old new : List (Vec ℕ Global)) (hull : Hull) (place : ℕ) : Type 0 where
  pub count : length new ≡ length old
  pub there : Contains (those new (home_of (length old) hull)) place
  pub stays : (home other : ℕ) → Contains (those old home) other → Contains (those new home) other

-- the hull of what an item writes, if it is a plain write that writes anything
abbrev pub written : Script → Queued → Option Hull
written script item = option_and_then (λ area. hull_of area.rects) (plain_area script item)

-- the item at a place is entered, where it writes anything
abbrev pub IsEntered : Script → List Queued → List (Vec ℕ Global) → ℕ → Type 0
IsEntered script items lists place =
    (area : Area) (hull : Hull) → area_at script items place ≡ Some area → hull_of area.rects ≡ Some hull
    → Contains (those lists (home_of (length lists) hull)) place

-- so of each of these places
abbrev pub AreEntered : Script → List Queued → List (Vec ℕ Global) → ℕ → ℕ → Type 0
AreEntered script items lists from limit = (place : ℕ) → from ≤ place → place < limit → IsEntered script items lists place

-- an item that is there stands aside
abbrev pub is_aside : Script → Option Queued → Bool
is_aside script None = false
is_aside script (Some item) = stands_aside script item

-- the items at these places are entered and stand aside, and the one behind them doesn't, if there is one
pub record Stands (script : Script) (items : List Queued) (lists : List (Vec ℕ Global)) (from limit : ℕ) : Type 0 where
  pub entered : AreEntered script items lists from limit
  pub aside : (place : ℕ) → from ≤ place → place < limit → is_aside script (slice_get items place) ≡ true
  pub ends : is_aside script (slice_get items limit) ≡ false

-- of each item from a place on, whether it is left out
pub record AreLeftOut (script : Script) (items : List Queued) (left : List Bool) (from : ℕ) : Type 0 where
  pub count : length left ≡ length items
  pub each : (place : ℕ) → from ≤ place → place < length items → slice_index_or left place false ≡ superseded script items place
