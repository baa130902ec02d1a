-- A plain write ends the live tiles of the cells that it meets, and a later one that covers it ends those too.
use Rattle.std.proofs.Common.{◌≡◌, ◌∙◌, ℕ, ◌+◌, ◌*◌, ◌≤◌, ◌<◌, Bool, true, false, cond, ◌&&◌, ◌||◌, not, max, min, nat_lt, List, [], ◌∷◌, Option, None, Some, inl, inr, refl, sym, ap, arith}
use Rattle.std.specs.Prelude.{◌==◌}
use Rattle.std.specs.FinMap.{FinMap, get, get-retain_keys, retain_keys, same_map}
use Rattle.std.specs.List.{list_all, list_any}
use Rattle.std.proofs.Math.Nat.{le-max_left, le-max_right, le-min, max-le, min-le_left, min-le_right}
use Rattle.std.proofs.lemmas.Bool.{cases_Bool, eqb-true, lt-ltb, ltb-true}
use Rattle.std.proofs.lemmas.Bool.Decides.{nat_tests}
use Rattle.gfx_base.specs.declared.geometry.Cell.{Cell}
use Rattle.gfx_base.specs.declared.geometry.Rect.{Rect}
use Rattle.gfx_base.specs.declared.geometry.TheConstants.{CELL_SIDE}
use Rattle.gfx_base.specs.Cells.{cell, meets}
use Rattle.gfx_prog_live.specs.Live.{Live, Passes, ended_in}
use Rattle.gfx_planner.specs.Passes.{ended_by}
use Rattle.gfx_prog_decode.specs.Records.{key_cmp}
use Rattle.gfx_prog_decode.specs.declared.key.Key.{Key}
use Rattle.gfx_prog_decode.proofs.Keys.{key_same, key_total}
use Rattle.gfx_script.specs.Writes.{Area}
use Rattle.gfx_window.specs.Superseded.{contains, covers}
use Rattle.gfx_window.proofs.HullLaws.{both, together}
use Rattle.gfx_schedule.proofs.LeavingPictures.{either_rest}

-- keeping some keys, and then some of those -----------------------------------------------------------

kept_both : {X : Type 0} (a b : Bool) (o : Option X) → cond b (cond a o None) None ≡ cond (a && b) o None
kept_both true b o = refl
kept_both false true o = refl
kept_both false false o = refl

module _ {X : Type 0} (m : FinMap key_cmp X) where
  kept-get : (test : Key → Bool) (q : Key) → get (retain_keys m test) q ≡ cond (test q) (get m q) None
  kept-get test q = get-retain_keys m test q (λ x tie. ap test (sym (key_same q x tie)))

kept-twice : {X : Type 0} (m : FinMap key_cmp X) (first second : Key → Bool) → retain_keys (retain_keys m first) second ≡ retain_keys m (λ key. first key && second key)
kept-twice m first second = same_map key_total key_same _ _ (λ q.
    kept-get (retain_keys m first) second q
    ∙ ap (λ o. cond (second q) o None) (kept-get m first q)
    ∙ kept_both (first q) (second q) (get m q)
    ∙ sym (kept-get m (λ key. first key && second key) q))

-- cells that a rectangle meets --------------------------------------------------------------------------

-- two ranges that have a place in common have it once either is wider
wider_range : (from to outer_from outer_to low high : ℕ) → outer_from ≤ from → to ≤ outer_to → nat_lt (max from low) (min to high) ≡ true → nat_lt (max outer_from low) (min outer_to high) ≡ true
wider_range from to outer_from outer_to low high wide_from wide_to met =
    let below : max from low < min to high = ltb-true (max from low) (min to high) met in
    let left : max outer_from low ≤ max from low = max-le (omega (arith, le-max_left from low)) (le-max_right from low) in
    let right : min to high ≤ min outer_to high = le-min (omega (arith, min-le_left to high)) (min-le_right to high) in
    lt-ltb (max outer_from low) (min outer_to high) (omega arith)

pub meets-outer : (outer inner : Rect) (c : Cell) → contains outer inner ≡ true → meets inner c ≡ true → meets outer c ≡ true
meets-outer outer inner c inside met =
    let wide : (outer.left ≤ inner.left) × (outer.top ≤ inner.top) × (inner.right ≤ outer.right) × (inner.bottom ≤ outer.bottom) = sides in
    let h = both (nat_lt (max inner.left (CELL_SIDE * c.x)) (min inner.right (CELL_SIDE * c.x + CELL_SIDE))) (nat_lt (max inner.top (CELL_SIDE * c.y)) (min inner.bottom (CELL_SIDE * c.y + CELL_SIDE))) met in
    together _ _
    (wider_range inner.left inner.right outer.left outer.right (CELL_SIDE * c.x) (CELL_SIDE * c.x + CELL_SIDE) wide.0 wide.2 h.0)
    (wider_range inner.top inner.bottom outer.top outer.bottom (CELL_SIDE * c.y) (CELL_SIDE * c.y + CELL_SIDE) wide.1 wide.3 h.1)
  where
    sides : (outer.left ≤ inner.left) × (outer.top ≤ inner.top) × (inner.right ≤ outer.right) × (inner.bottom ≤ outer.bottom)
    sides = grind (arith, nat_tests)

-- some of these rectangles meets the cell
abbrev some_meets : List Rect → Cell → Bool
some_meets rects c = list_any (λ rect. meets rect c) rects

-- what one rectangle contains meets no cell that the one doesn't meet
meets-all : (outer : Rect) (rects : List Rect) (c : Cell) → list_all (contains outer) rects ≡ true → some_meets rects c ≡ true → meets outer c ≡ true
meets-all outer [] c inside met = absurd cc
meets-all outer (rect ∷ rects) c inside met =
    let h = both (contains outer rect) (list_all (contains outer) rects) inside in
    elim (cases_Bool (meets rect c)) [
      | inl here ↦ meets-outer outer rect c h.0 here
      | inr not_here ↦ meets-all outer rects c h.1 (either_rest (meets rect c) (some_meets rects c) met not_here)
    ]

either_first : (a b : Bool) → a ≡ true → (a || b) ≡ true
either_first a b e = ap (λ z. z || b) e

either_second : (a b : Bool) → b ≡ true → (a || b) ≡ true
either_second true b e = refl
either_second false b e = e

meets-covered : (rects later : List Rect) (c : Cell) → list_any (λ outer. list_all (contains outer) rects) later ≡ true → some_meets rects c ≡ true → some_meets later c ≡ true
meets-covered rects [] c covered met = absurd cc
meets-covered rects (outer ∷ later) c covered met =
    elim (cases_Bool (list_all (contains outer) rects)) [
      | inl here ↦ either_first (meets outer c) (some_meets later c) (meets-all outer rects c here met)
      | inr not_here ↦ either_second (meets outer c) (some_meets later c) (meets-covered rects later c (either_rest (list_all (contains outer) rects) _ covered not_here) met)
    ]

-- live tiles that end -------------------------------------------------------------------------------------

-- an area touches a cell
abbrev touches : Area → Key → Bool
touches area key = key.surface == area.surface && some_meets area.rects (cell key.x key.y)

-- an area that covers another touches each cell that the other touches
touches-covered : (plain later : Area) (key : Key) → covers plain (Some later) ≡ true → touches plain key ≡ true → touches later key ≡ true
touches-covered plain later key covered hit =
    let c = both (later.surface == plain.surface) _ covered in
    let h = both (key.surface == plain.surface) _ hit in
    together (key.surface == later.surface) (some_meets later.rects (cell key.x key.y))
    (ap (λ n. key.surface == n) (eqb-true later.surface plain.surface c.0) ∙ h.0)
    (meets-covered plain.rects later.rects (cell key.x key.y) c.1 h.1)

and_swap : (a b : Bool) → (a && b) ≡ (b && a)
and_swap true true = refl
and_swap true false = refl
and_swap false true = refl
and_swap false false = refl

and_self : (a : Bool) → (a && a) ≡ a
and_self true = refl
and_self false = refl

not_both : (a b : Bool) → (a ≡ true → b ≡ true) → (not a && not b) ≡ not b
not_both true b to = sym (ap not (to refl))
not_both false b to = refl

-- ended in two areas in either order, in one area twice, and in one area that covers the other
ended-swap : (live : Live) (first second : Area) → ended_in (ended_in live first) second ≡ ended_in (ended_in live second) first
ended-swap live first second =
    kept-twice live (λ key. not (touches first key)) (λ key. not (touches second key))
    ∙ ap (retain_keys live) (λ i key. and_swap (not (touches first key)) (not (touches second key)) i)
    ∙ sym (kept-twice live (λ key. not (touches second key)) (λ key. not (touches first key)))

ended-self : (live : Live) (area : Area) → ended_in (ended_in live area) area ≡ ended_in live area
ended-self live area =
    kept-twice live (λ key. not (touches area key)) (λ key. not (touches area key))
    ∙ ap (retain_keys live) (λ i key. and_self (not (touches area key)) i)

ended-covered : (live : Live) (plain later : Area) → covers plain (Some later) ≡ true → ended_in (ended_in live plain) later ≡ ended_in live later
ended-covered live plain later covered =
    kept-twice live (λ key. not (touches plain key)) (λ key. not (touches later key))
    ∙ ap (retain_keys live) (λ i key. not_both (touches plain key) (touches later key) (λ hit. touches-covered plain later key covered hit) i)

-- the same of passes, whose numbers stay
same_live : (passes : Passes) (a b : Live) → a ≡ b → ◌≡◌ {A = Passes} (record passes { live = a }) (record passes { live = b })
same_live passes a b same = λ i. record passes { live = same i }

pub passes-swap : (passes : Passes) (first second : Area) → ended_by (ended_by passes (Some first)) (Some second) ≡ ended_by (ended_by passes (Some second)) (Some first)
unfolding ended_by
passes-swap passes first second = same_live passes _ _ (ended-swap passes.live first second)

pub passes-self : (passes : Passes) (area : Area) → ended_by (ended_by passes (Some area)) (Some area) ≡ ended_by passes (Some area)
unfolding ended_by
passes-self passes area = same_live passes _ _ (ended-self passes.live area)

pub passes-covered : (passes : Passes) (plain later : Area) → covers plain (Some later) ≡ true → ended_by (ended_by passes (Some plain)) (Some later) ≡ ended_by passes (Some later)
unfolding ended_by
passes-covered passes plain later covered = same_live passes _ _ (ended-covered passes.live plain later covered)
