-- What covers a write is entered in one of the lists where it is looked for.
use Rattle.std.proofs.Common.{◌≡◌, ◌⊎◌, inl, inr, ℕ, zero, ◌+◌, ◌-◌, ◌/◌, ◌<◌, ◌≤◌, Bool, true, false, nat_eq, nat_le, nat_lt, leb, min, max, List, [], ◌∷◌, length, Option, Some, None, refl, sym, ap, ◌∙◌, subst, arith, Vec, Global}
use Rattle.std.specs.Prelude.{◌&&◌, ◌||◌, ◌==◌, fold, if◌then◌else◌}
use Rattle.std.specs.List.{Contains, list_any}
use Rattle.std.proofs.Math.Nat.{min-le_left, min-le_right, le-max_left, le-max_right}
use Rattle.std.proofs.lemmas.Bool.{cases_eq, le-leb, leb-true, ltb-true, le-ltb, lt-leb}
use Rattle.std.proofs.lemmas.Bool.Decides.{nat_tests}
use Rattle.std.proofs.lemmas.Nat.{div-add-mod', le-div}
use Rattle.std.proofs.lemmas.List.Folds.{list_any_at}
use native.Mathlib.Nat.{add-div_right}
use Rattle.gfx_base.specs.declared.geometry.Rect.{Rect}
use Rattle.gfx_script.specs.Scripted.{Script}
use Rattle.gfx_script.specs.Writes.{Area}
use Rattle.gfx_window.specs.declared.covering.Hull.{Hull}
use Rattle.gfx_window.specs.declared.index.Sought.{Sought}
use Rattle.gfx_window.specs.declared.index.TheConstants.{SIDES}
use Rattle.gfx_window.specs.declared.window.Queued.{Queued}
use Rattle.gfx_window.specs.Hulls.{as_hull, joined, hull_of, reaches, reaches_all, hull_covers}
use Rattle.gfx_window.specs.Index.{those, cell, spot, fits, home_in, area_at, hits, looks_around, near, found, AreEntered}
use Rattle.gfx_window.proofs.HullLaws.{both, together}

-- ---- truth values

or-right : (a b : Bool) → b ≡ true → (a || b) ≡ true
or-right true b e = refl
or-right false b e = e

or-left : (a b : Bool) → a ≡ true → (a || b) ≡ true
or-left a b e = ap (λ z. z || b) e

pub either : (a b : Bool) → (a || b) ≡ true → (a ≡ true) ⊎ (b ≡ true)
either true b e = inl refl
either false b e = inr e

-- ---- what a hull reaches, the hull of more reaches

numbers : (outer hull : Hull) → reaches outer hull ≡ true → (outer.left ≤ hull.left) × (outer.top ≤ hull.top) × (hull.right ≤ outer.right) × (hull.bottom ≤ outer.bottom)
numbers outer hull e =
    let h = both (leb outer.left hull.left && leb outer.top hull.top) (leb hull.right outer.right && leb hull.bottom outer.bottom) e in
    let upper = both (leb outer.left hull.left) (leb outer.top hull.top) h.0 in
    let lower = both (leb hull.right outer.right) (leb hull.bottom outer.bottom) h.1 in
    (leb-true _ _ upper.0, leb-true _ _ upper.1, leb-true _ _ lower.0, leb-true _ _ lower.1)

from_numbers : (outer hull : Hull) → outer.left ≤ hull.left → outer.top ≤ hull.top → hull.right ≤ outer.right → hull.bottom ≤ outer.bottom → reaches outer hull ≡ true
from_numbers outer hull left top right bottom =
    together (leb outer.left hull.left && leb outer.top hull.top) (leb hull.right outer.right && leb hull.bottom outer.bottom)
    (together (leb outer.left hull.left) (leb outer.top hull.top) (le-leb _ _ left) (le-leb _ _ top))
    (together (leb hull.right outer.right) (leb hull.bottom outer.bottom) (le-leb _ _ right) (le-leb _ _ bottom))

-- a hull that is there reaches another
abbrev pub Reached : Option Hull → Hull → Type 0
Reached None inner = ⊥
Reached (Some outer) inner = reaches outer inner ≡ true

keeps : (hull : Option Hull) (more inner : Hull) → Reached hull inner → reaches (joined hull more) inner ≡ true
keeps None more inner r = absurd r
keeps (Some hull) more inner r =
    let n = numbers hull inner r in
    from_numbers (joined (Some hull) more) inner
    (omega (arith, n.0, min-le_left hull.left more.left)) (omega (arith, n.1, min-le_left hull.top more.top))
    (omega (arith, n.2, le-max_left hull.right more.right)) (omega (arith, n.3, le-max_left hull.bottom more.bottom))

gains : (hull : Option Hull) (more inner : Hull) → reaches more inner ≡ true → reaches (joined hull more) inner ≡ true
gains None more inner r = r
gains (Some hull) more inner r =
    let n = numbers more inner r in
    from_numbers (joined (Some hull) more) inner
    (omega (arith, n.0, min-le_right hull.left more.left)) (omega (arith, n.1, min-le_right hull.top more.top))
    (omega (arith, n.2, le-max_right hull.right more.right)) (omega (arith, n.3, le-max_right hull.bottom more.bottom))

abbrev all_joined : Option Hull → List Rect → Option Hull
all_joined hull rects = fold (λ h rect. Some (joined h (as_hull rect))) hull rects

stays_reached : (rects : List Rect) (hull : Option Hull) (inner : Hull) → Reached hull inner → Reached (all_joined hull rects) inner
stays_reached [] hull inner r = r
stays_reached (rect ∷ rects) hull inner r = stays_reached rects (Some (joined hull (as_hull rect))) inner (keeps hull (as_hull rect) inner r)

comes_reached : (rects : List Rect) (hull : Option Hull) (inner : Hull) → list_any (λ outer. reaches (as_hull outer) inner) rects ≡ true → Reached (all_joined hull rects) inner
comes_reached [] hull inner e = absurd cc
comes_reached (rect ∷ rects) hull inner e =
    elim (either (reaches (as_hull rect) inner) (list_any (λ outer. reaches (as_hull outer) inner) rects) e) [
      | inl here ↦ stays_reached rects (Some (joined hull (as_hull rect))) inner (gains hull (as_hull rect) inner here)
      | inr later ↦ comes_reached rects (Some (joined hull (as_hull rect))) inner later
    ]

-- ---- squares

ratio_grows : (a b k : ℕ) → 0 < k → a ≤ b → a / k ≤ b / k
ratio_grows a b k some le = le-div (a / k) b k some (omega (arith, div-add-mod' a k, le))

nonzero : (n : ℕ) → 0 < n → nat_eq n 0 ≡ false
nonzero n some = grind (arith, nat_tests)

cell_is : (side at : ℕ) → 0 < side → cell side at ≡ at / side
unfolding cell
cell_is side at some = ap (λ (b : Bool). if b then 0 else at / side) (nonzero side some)

-- the corner of what reaches a hull and is no longer than a side lies in the square of the hull's corner, or in the one before it
cells_near : (side a b : ℕ) → 0 < side → a ≤ b → b ≤ a + side → (cell side a ≡ cell side b) ⊎ (cell side a ≡ cell side b - 1)
cells_near side a b some le far = rw (cell_is side a some, cell_is side b some) near_by
  where
    low : a / side ≤ b / side
    low = ratio_grows a b side some le

    high : b / side ≤ a / side + 1
    high = subst (λ n. b / side ≤ n) (add-div_right a some) (ratio_grows b (a + side) side some far)

    near_by : (a / side ≡ b / side) ⊎ (a / side ≡ b / side - 1)
    near_by = elim (cases_eq (a / side) (b / side)) [
      | inl same ↦ inl same
      | inr differ ↦ inr (omega (arith, low, high, differ))
    ]

any_of : {X : Type 0} (test : X → Bool) (xs : List X) (x : X) → Contains xs x → test x ≡ true → list_any test xs ≡ true
any_of test xs x there holds = list_any_at test xs there.0 x there.1 (ap test there.2 ∙ holds)

-- ---- what is looked for

module _ (script : Script) (items : List Queued) (sought : Sought) (lists : List (Vec ℕ Global)) where
  abbrev here : ℕ → Bool
  here home = list_any (hits script items sought) (those lists home)

  module _ (side x y : ℕ) where
    abbrev square : ℕ → ℕ → Bool
    square a b = here (spot (length lists) side a b)

    four : (a b : ℕ) → (a ≡ x) ⊎ (a ≡ x - 1) → (b ≡ y) ⊎ (b ≡ y - 1) → square a b ≡ true → looks_around script items sought lists side x y ≡ true
    four a b (inl p) (inl q) e = or-left (square x y) (square (x - 1) y || (square x (y - 1) || square (x - 1) (y - 1))) (sym (λ i. square (p i) (q i)) ∙ e)
    four a b (inr p) (inl q) e =
        or-right (square x y) (square (x - 1) y || (square x (y - 1) || square (x - 1) (y - 1)))
        (or-left (square (x - 1) y) (square x (y - 1) || square (x - 1) (y - 1)) (sym (λ i. square (p i) (q i)) ∙ e))
    four a b (inl p) (inr q) e =
        or-right (square x y) (square (x - 1) y || (square x (y - 1) || square (x - 1) (y - 1)))
        (or-right (square (x - 1) y) (square x (y - 1) || square (x - 1) (y - 1)) (or-left (square x (y - 1)) (square (x - 1) (y - 1)) (sym (λ i. square (p i) (q i)) ∙ e)))
    four a b (inr p) (inr q) e =
        or-right (square x y) (square (x - 1) y || (square x (y - 1) || square (x - 1) (y - 1)))
        (or-right (square (x - 1) y) (square x (y - 1) || square (x - 1) (y - 1)) (or-right (square x (y - 1)) (square (x - 1) (y - 1)) (sym (λ i. square (p i) (q i)) ∙ e)))

  module _ (across : sought.hull.left ≤ sought.hull.right) (down : sought.hull.top ≤ sought.hull.bottom) (outer : Hull) (reached : reaches outer sought.hull ≡ true) where
    near_found : (side : ℕ) → fits side outer ≡ true → here (spot (length lists) side (cell side outer.left) (cell side outer.top)) ≡ true → near script items sought lists side ≡ true
    unfolding near
    near_found side fit e =
        let n = numbers outer sought.hull reached in
        let parts = both (nat_lt 0 side) (leb (outer.right - outer.left) side && leb (outer.bottom - outer.top) side) fit in
        let sides = both (leb (outer.right - outer.left) side) (leb (outer.bottom - outer.top) side) parts.1 in
        let some : 0 < side = ltb-true _ _ parts.0 in
        let wide : outer.right - outer.left ≤ side = leb-true _ _ sides.0 in
        let high : outer.bottom - outer.top ≤ side = leb-true _ _ sides.1 in
        four side (cell side sought.hull.left) (cell side sought.hull.top) (cell side outer.left) (cell side outer.top)
        (cells_near side outer.left sought.hull.left some n.0 (omega (arith, across, wide, n.0, n.2)))
        (cells_near side outer.top sought.hull.top some n.1 (omega (arith, down, high, n.1, n.3))) e

    module _ (side : ℕ) (sides : List ℕ) where
      abbrev this : Bool
      this = near script items sought lists side

      abbrev others : Bool
      others = list_any (near script items sought lists) sides

      first_found : (b : Bool) → fits side outer ≡ b → here (home_in (length lists) outer (side ∷ sides)) ≡ true
          → (here (home_in (length lists) outer sides) ≡ true → (others || here 0) ≡ true) → ((this || others) || here 0) ≡ true
      unfolding home_in
      first_found true fit e later =
          let it : here (spot (length lists) side (cell side outer.left) (cell side outer.top)) ≡ true = (let is = rw fit at e in is) in
          or-left (this || others) (here 0) (or-left this others (near_found side fit it))
      first_found false not e later =
          let rest : here (home_in (length lists) outer sides) ≡ true = (let is = rw not at e in is) in
          elim (either others (here 0) (later rest)) [
            | inl there ↦ or-left (this || others) (here 0) (or-right this others there)
            | inr there ↦ or-right (this || others) (here 0) there
          ]

    home_found : (sides : List ℕ) → here (home_in (length lists) outer sides) ≡ true → (list_any (near script items sought lists) sides || here 0) ≡ true
    unfolding home_in
    home_found [] e = e
    home_found (side ∷ sides) e = first_found side sides (fits side outer) refl e (λ rest. home_found sides rest)

  -- an item that covers the write is found
  pub covering_found : sought.write.hull ≡ Some sought.hull → sought.hull.left ≤ sought.hull.right → sought.hull.top ≤ sought.hull.bottom
      → AreEntered script items lists sought.from sought.limit → (place : ℕ) → sought.from ≤ place → place < sought.limit
      → hull_covers sought.write (area_at script items place) ≡ true → found script items sought lists ≡ true
  unfolding found hits
  covering_found is across down entered place from limit covers = by (area_at script items place) refl
    where
      behind : nat_lt place sought.from ≡ false
      behind = le-ltb _ _ from

      before : nat_le sought.limit place ≡ false
      before = lt-leb _ _ limit

      hit : hits script items sought place ≡ true
      hit = rw (behind, before) covers

      at_hull : (later : Area) (o : Option Hull) → hull_of later.rects ≡ o → area_at script items place ≡ Some later → Reached o sought.hull → found script items sought lists ≡ true
      at_hull later None none there r = absurd r
      at_hull later (Some outer) some there r =
          home_found across down outer r SIDES (any_of (hits script items sought) _ place (entered place from limit later outer there some) hit)

      by : (o : Option Area) → area_at script items place ≡ o → found script items sought lists ≡ true
      by None none = let no : false ≡ true = sym (ap (hull_covers sought.write) none) ∙ covers in absurd cc
      by (Some later) there =
          let here : hull_covers sought.write (Some later) ≡ true = sym (ap (hull_covers sought.write) there) ∙ covers in
          let parts = both (later.surface == sought.write.surface) (list_any (λ rect. reaches_all (as_hull rect) sought.write.hull) later.rects) here in
          let reaching : list_any (λ rect. reaches (as_hull rect) sought.hull) later.rects ≡ true = sym (ap (λ h. list_any (λ rect. reaches_all (as_hull rect) h) later.rects) is) ∙ parts.1 in
          at_hull later (hull_of later.rects) refl there (comes_reached later.rects None sought.hull reaching)
