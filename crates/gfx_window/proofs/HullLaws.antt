-- Reaching a hull is containing each rectangle that it is of.
use Rattle.std.proofs.Common.{◌≡◌, ℕ, ◌+◌, ◌≤◌, Bool, true, false, leb, min, max, List, [], ◌∷◌, drop, Option, Some, None, refl, sym, ap, ◌∙◌, arith}
use Rattle.std.specs.Prelude.{◌&&◌, ◌||◌, ◌==◌, fold}
use Rattle.std.specs.List.{list_all, list_any, slice_get}
use Rattle.std.specs.Option.{option_map, option_and_then}
use Rattle.std.proofs.Math.Nat.{min-le_left, min-le_right, le-min, le-max_left, le-max_right, max-le}
use Rattle.std.proofs.lemmas.Bool.{le-leb, leb-true}
use Rattle.gfx_base.specs.declared.geometry.Rect.{Rect}
use Rattle.gfx_script.specs.Scripted.{Script}
use Rattle.gfx_script.specs.Writes.{Area}
use Rattle.gfx_window.specs.declared.covering.Hull.{Hull}
use Rattle.gfx_window.specs.declared.covering.Write.{Write}
use Rattle.gfx_window.specs.declared.window.Queued.{Queued}
use Rattle.gfx_window.specs.Superseded.{plain_area, stands_aside, contains, covers, is_covered, is_left_out, superseded}
use Rattle.gfx_window.specs.Hulls.{as_hull, joined, hull_of, reaches, reaches_all, write_of, hull_covers, is_covered_by}

-- ---- truth values

and-true : (a : Bool) → (a && true) ≡ a
and-true true = refl
and-true false = refl

and-assoc : (a b c : Bool) → ((a && b) && c) ≡ (a && (b && c))
and-assoc true b c = refl
and-assoc false b c = refl

and-swap : (a b c d : Bool) → ((a && b) && (c && d)) ≡ ((a && c) && (b && d))
and-swap true true true d = refl
and-swap true true false d = refl
and-swap true false true d = refl
and-swap true false false d = refl
and-swap false b c d = refl

-- ---- the least and the greatest side

-- two tests that hold together are one
same_test : (a b : Bool) → (a ≡ true → b ≡ true) → (b ≡ true → a ≡ true) → a ≡ b
same_test true b to from = sym (to refl)
same_test false true to from = from refl
same_test false false to from = refl

pub both : (a b : Bool) → (a && b) ≡ true → (a ≡ true) × (b ≡ true)
both true b e = (refl, e)
both false b e = absurd cc

pub together : (a b : Bool) → a ≡ true → b ≡ true → (a && b) ≡ true
together a b p q = rw (p, q) refl

least : (a x y : ℕ) → leb a (min x y) ≡ (leb a x && leb a y)
least a x y = same_test (leb a (min x y)) (leb a x && leb a y)
    (λ e. let le : a ≤ min x y = leb-true _ _ e in
    together (leb a x) (leb a y) (le-leb _ _ (omega (arith, min-le_left x y))) (le-leb _ _ (omega (arith, min-le_right x y))))
    (λ e. let h = both (leb a x) (leb a y) e in le-leb _ _ (le-min {k = a} {a = x} {b = y} (leb-true _ _ h.0) (leb-true _ _ h.1)))

greatest : (a x y : ℕ) → leb (max x y) a ≡ (leb x a && leb y a)
greatest a x y = same_test (leb (max x y) a) (leb x a && leb y a)
    (λ e. let le : max x y ≤ a = leb-true _ _ e in
    together (leb x a) (leb y a) (le-leb _ _ (omega (arith, le-max_left x y))) (le-leb _ _ (omega (arith, le-max_right x y))))
    (λ e. let h = both (leb x a) (leb y a) e in le-leb _ _ (max-le (leb-true _ _ h.0) (leb-true _ _ h.1)))

-- ---- a hull

reaches-joined : (outer : Hull) (hull : Option Hull) (more : Hull) → reaches outer (joined hull more) ≡ (reaches_all outer hull && reaches outer more)
reaches-joined outer None more = refl
reaches-joined outer (Some hull) more =
    let upper = and-swap (leb outer.left hull.left) (leb outer.left more.left) (leb outer.top hull.top) (leb outer.top more.top) in
    let lower = and-swap (leb hull.right outer.right) (leb more.right outer.right) (leb hull.bottom outer.bottom) (leb more.bottom outer.bottom) in
    let whole = and-swap (leb outer.left hull.left && leb outer.top hull.top) (leb outer.left more.left && leb outer.top more.top) (leb hull.right outer.right && leb hull.bottom outer.bottom) (leb more.right outer.right && leb more.bottom outer.bottom) in
    rw (least outer.left hull.left more.left, least outer.top hull.top more.top, greatest outer.right hull.right more.right, greatest outer.bottom hull.bottom more.bottom, upper, lower, whole) refl

module _ (outer : Rect) where
  reaches-fold : (hull : Option Hull) (rects : List Rect) → reaches_all (as_hull outer) (fold (λ h rect. Some (joined h (as_hull rect))) hull rects) ≡ (reaches_all (as_hull outer) hull && list_all (contains outer) rects)
  reaches-fold hull [] = sym (and-true (reaches_all (as_hull outer) hull))
  reaches-fold hull (rect ∷ rects) =
      reaches-fold (Some (joined hull (as_hull rect))) rects
      ∙ ap (λ b. b && list_all (contains outer) rects) (reaches-joined (as_hull outer) hull (as_hull rect))
      ∙ and-assoc (reaches_all (as_hull outer) hull) (contains outer rect) (list_all (contains outer) rects)

  pub reaches-hull : (rects : List Rect) → reaches_all (as_hull outer) (hull_of rects) ≡ list_all (contains outer) rects
  reaches-hull rects = reaches-fold None rects

any-reaches : (rects laters : List Rect) → list_any (λ outer. reaches_all (as_hull outer) (hull_of rects)) laters ≡ list_any (λ outer. list_all (contains outer) rects) laters
any-reaches rects laters = λ i. list_any (λ outer. reaches-hull outer rects i) laters

covers-hull : (area : Area) (later : Option Area) → hull_covers (write_of area) later ≡ covers area later
covers-hull area None = refl
covers-hull area (Some later) = ap (λ b. (later.surface == area.surface) && b) (any-reaches area.rects later.rects)

-- the test by hulls is the rule
pub covered-by : (script : Script) (area : Area) (items : List Queued) → is_covered_by script (write_of area) items ≡ is_covered script area items
unfolding is_covered_by is_covered
covered-by script area [] = refl
covered-by script area (item ∷ items) =
    λ i. covers-hull area (plain_area script item) i || (stands_aside script item && covered-by script area items i)

-- the test of a write's hull is the rule, where there is a write
pub left-out-by : (script : Script) (area : Option Area) (write : Write) (items : List Queued) → option_map write_of area ≡ Some write → is_covered_by script write items ≡ is_left_out script area items
left-out-by script None write items e = absurd cc
left-out-by script (Some area) write items e =
    let same : write_of area ≡ write = cc in
    ap (λ w. is_covered_by script w items) (sym same) ∙ covered-by script area items

-- so of the item at a place
pub superseded-by : (script : Script) (pending : List Queued) (place : ℕ) (item : Queued) (write : Write) → slice_get pending place ≡ Some item → option_map write_of (plain_area script item) ≡ Some write → is_covered_by script write (drop (place + 1) pending) ≡ superseded script pending place
superseded-by script pending place item write there e =
    left-out-by script (plain_area script item) write (drop (place + 1) pending) e
    ∙ ap (λ o. is_left_out script (option_and_then (plain_area script) o) (drop (place + 1) pending)) (sym there)
