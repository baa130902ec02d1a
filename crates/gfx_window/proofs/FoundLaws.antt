-- The sought finds exactly what covers a write.
use Rattle.std.proofs.Common.{◌≡◌, inl, inr, ℕ, zero, suc, ◌-◌, ◌<◌, ◌≤◌, Bool, true, false, nat_le, nat_lt, List, [], ◌∷◌, drop, Option, Some, None, refl, sym, ap, ◌∙◌, arith, Vec, Global}
use Rattle.std.specs.Prelude.{◌&&◌, ◌||◌, slice_get}
use Rattle.std.specs.List.{list_any}
use Rattle.std.specs.Option.{is_some}
use Rattle.std.proofs.lemmas.Bool.{leb-false, ltb-false}
use Rattle.gfx_script.specs.Script.{step_at}
use Rattle.gfx_script.specs.Scripted.{Script}
use Rattle.gfx_script.specs.Writes.{Area}
use Rattle.gfx_window.specs.declared.covering.Write.{Write}
use Rattle.gfx_window.specs.declared.index.Sought.{Sought}
use Rattle.gfx_window.specs.declared.index.TheConstants.{SIDES}
use Rattle.gfx_window.specs.declared.window.Queued.{Queued}
use Rattle.gfx_window.specs.Superseded.{plain_area, shows, stands_aside}
use Rattle.gfx_window.specs.Hulls.{hull_covers, is_covered_by}
use Rattle.gfx_window.specs.Index.{those, cell, area_at, hits, looks, looks_around, near, found, is_aside, Stands}
use Rattle.gfx_window.proofs.IndexLaws.{covering_found, either}

-- an item that covers a write is looked for
record Covering (script : Script) (items : List Queued) (write : Write) (from limit : ℕ) : Type 0 where
  pub place : ℕ
  pub from_on : from ≤ place
  pub before : place < limit
  pub covers : hull_covers write (area_at script items place) ≡ true

module _ (script : Script) (items : List Queued) (sought : Sought) where
  hit_covers : (place : ℕ) → hits script items sought place ≡ true → Covering script items sought.write sought.from sought.limit
  unfolding hits
  hit_covers place e = by (nat_lt place sought.from) (nat_le sought.limit place) refl refl
    where
      by : (a b : Bool) → nat_lt place sought.from ≡ a → nat_le sought.limit place ≡ b → Covering script items sought.write sought.from sought.limit
      by true b p q = let no : false ≡ true = rw p at e in absurd cc
      by false true p q = let no : false ≡ true = rw (p, q) at e in absurd cc
      by false false p q = record {
        place = place;
        from_on = omega (arith, ltb-false place sought.from p);
        before = omega (arith, leb-false sought.limit place q);
        covers = (let it = rw (p, q) at e in it);
      }

  one_covers : (places : List ℕ) → list_any (hits script items sought) places ≡ true → Covering script items sought.write sought.from sought.limit
  one_covers [] e = absurd cc
  one_covers (place ∷ places) e = elim (either (hits script items sought place) (list_any (hits script items sought) places) e) [
    | inl here ↦ hit_covers place here
    | inr later ↦ one_covers places later
  ]

  module _ (lists : List (Vec ℕ Global)) where
    near_covers : (side : ℕ) → near script items sought lists side ≡ true → Covering script items sought.write sought.from sought.limit
    unfolding near
    near_covers side e = around (cell side sought.hull.left) (cell side sought.hull.top) e
      where
        around : (x y : ℕ) → looks_around script items sought lists side x y ≡ true → Covering script items sought.write sought.from sought.limit
        around x y e =
            elim (either (looks script items sought lists side x y) (looks script items sought lists side (x - 1) y || (looks script items sought lists side x (y - 1) || looks script items sought lists side (x - 1) (y - 1))) e) [
              | inl here ↦ one_covers _ here
              | inr others ↦ elim (either (looks script items sought lists side (x - 1) y) (looks script items sought lists side x (y - 1) || looks script items sought lists side (x - 1) (y - 1)) others) [
                | inl here ↦ one_covers _ here
                | inr last ↦ elim (either (looks script items sought lists side x (y - 1)) (looks script items sought lists side (x - 1) (y - 1)) last) [ inl here ↦ one_covers _ here | inr here ↦ one_covers _ here ]
              ]
            ]

    sides_cover : (sides : List ℕ) → list_any (near script items sought lists) sides ≡ true → Covering script items sought.write sought.from sought.limit
    sides_cover [] e = absurd cc
    sides_cover (side ∷ sides) e = elim (either (near script items sought lists side) (list_any (near script items sought lists) sides) e) [
      | inl here ↦ near_covers side here
      | inr later ↦ sides_cover sides later
    ]

    found_covers : found script items sought lists ≡ true → Covering script items sought.write sought.from sought.limit
    unfolding found
    found_covers e = elim (either (list_any (near script items sought lists) SIDES) (list_any (hits script items sought) (those lists 0)) e) [
      | inl there ↦ sides_cover SIDES there
      | inr there ↦ one_covers _ there
    ]

-- ---- what the rule says of it

module _ (script : Script) (write : Write) where
  -- what doesn't stand aside covers nothing
  stays_uncovered : (item : Queued) → stands_aside script item ≡ false → hull_covers write (plain_area script item) ≡ false
  stays_uncovered item e = by (plain_area script item) refl
    where
      by : (o : Option Area) → plain_area script item ≡ o → hull_covers write (plain_area script item) ≡ false
      by None none = ap (hull_covers write) none
      by (Some area) there =
          let no : true ≡ false = sym (ap (λ o. is_some o || shows (step_at script.steps item.step)) there) ∙ e in absurd cc

  and-none : (a b : Bool) → b ≡ false → (a && b) ≡ false
  and-none true b e = e
  and-none false b e = refl

  or-all : (a b : Bool) → b ≡ true → (a || b) ≡ true
  or-all true b e = refl
  or-all false b e = e

  neither : (a b : Bool) → a ≡ false → b ≡ false → (a || b) ≡ false
  neither true b p q = p
  neither false b p q = q

  none_behind : (items : List Queued) (from limit : ℕ) → from ≤ limit → ((place : ℕ) → from ≤ place → place < limit → hull_covers write (area_at script items place) ≡ false)
      → is_aside script (slice_get items limit) ≡ false → is_covered_by script write (drop from items) ≡ false
  unfolding is_covered_by
  none_behind [] zero limit le none ends = refl
  none_behind [] (suc from) limit le none ends = refl
  none_behind (item ∷ items) (suc from) zero le none ends = absurd (omega (arith, le))
  none_behind (item ∷ items) (suc from) (suc limit) le none ends =
      none_behind items from limit (omega (arith, le)) (λ place first last. none (suc place) (omega (arith, first)) (omega (arith, last))) ends
  none_behind (item ∷ items) zero zero le none ends =
      neither (hull_covers write (plain_area script item)) (stands_aside script item && is_covered_by script write items) (stays_uncovered item ends) (ap (λ b. b && is_covered_by script write items) ends)
  none_behind (item ∷ items) zero (suc limit) le none ends =
      neither (hull_covers write (plain_area script item)) (stands_aside script item && is_covered_by script write items) (none 0 (omega arith) (omega arith))
      (and-none (stands_aside script item) (is_covered_by script write items) (none_behind items 0 limit (omega arith) (λ place first last. none (suc place) (omega arith) (omega (arith, last))) ends))

  some_behind : (items : List Queued) (from place : ℕ) → from ≤ place → ((other : ℕ) → from ≤ other → other < place → is_aside script (slice_get items other) ≡ true)
      → hull_covers write (area_at script items place) ≡ true → is_covered_by script write (drop from items) ≡ true
  unfolding is_covered_by
  some_behind [] from place le aside covers = absurd cc
  some_behind (item ∷ items) (suc from) zero le aside covers = absurd (omega (arith, le))
  some_behind (item ∷ items) (suc from) (suc place) le aside covers =
      some_behind items from place (omega (arith, le)) (λ other first last. aside (suc other) (omega (arith, first)) (omega (arith, last))) covers
  some_behind (item ∷ items) zero zero le aside covers = ap (λ b. b || (stands_aside script item && is_covered_by script write items)) covers
  some_behind (item ∷ items) zero (suc place) le aside covers =
      let later : is_covered_by script write items ≡ true = some_behind items 0 place (omega arith) (λ other first last. aside (suc other) (omega arith) (omega (arith, last))) covers in
      or-all (hull_covers write (plain_area script item)) (stands_aside script item && is_covered_by script write items)
      ((λ i. aside 0 (omega arith) (omega arith) i && is_covered_by script write items) ∙ later)

-- the sought is the rule
pub found-is : (script : Script) (items : List Queued) (sought : Sought) (lists : List (Vec ℕ Global)) → sought.write.hull ≡ Some sought.hull
    → sought.hull.left ≤ sought.hull.right → sought.hull.top ≤ sought.hull.bottom → sought.from ≤ sought.limit
    → Stands script items lists sought.from sought.limit
    → found script items sought lists ≡ is_covered_by script sought.write (drop sought.from items)
found-is script items sought lists is across down within stands = by (found script items sought lists) refl
  where
    here : (b : Bool) (place : ℕ) → found script items sought lists ≡ false → sought.from ≤ place → place < sought.limit → hull_covers sought.write (area_at script items place) ≡ b → b ≡ false
    here true place none from limit covers =
        let no : true ≡ false = sym (covering_found script items sought lists is across down stands.entered place from limit covers) ∙ none in absurd cc
    here false place none from limit covers = refl

    by : (b : Bool) → found script items sought lists ≡ b → found script items sought lists ≡ is_covered_by script sought.write (drop sought.from items)
    by true finds =
        let one = found_covers script items sought lists finds in
        finds ∙ sym (some_behind script sought.write items sought.from one.place one.from_on (λ other first last. stands.aside other first (omega (arith, last, one.before))) one.covers)
    by false none =
        none ∙ sym (none_behind script sought.write items sought.from sought.limit within (λ place first last. here _ place none first last refl) stands.ends)
