-- The walk over waiting items that marks the pictures of those that surely have to be sent.
use Rattle.std.proofs.Common.{◌≡◌, ℕ, zero, suc, ◌+◌, ◌-◌, ◌<◌, ◌≤◌, Bool, true, false, ◌&&◌, nat_le, List, [], ◌∷◌, length, drop, get_or, refl, sym, ◌∙◌, ap, arith}
use Rattle.std.specs.List.{list_all}
use Rattle.std.proofs.lemmas.Bool.{le-leb, leb-true, leb-false}
use Rattle.std.proofs.lemmas.List.{drop_more, drop_all}
use Rattle.gfx_script.specs.Script.{step_at}
use Rattle.gfx_script.specs.Scripted.{Script}
use Rattle.gfx_script.specs.Sparing.{Marks}
use Rattle.gfx_window.specs.declared.window.Queued.{Queued}
use Rattle.gfx_window.specs.Sparing.{AsideFrom, items_marked, step_marked, surely_sent}
use Rattle.gfx_window.specs.Superseded.{is_left_out, plain_area, stands_aside}

module _ (script : Script) (items newest : List Queued) (i : ℕ) (d : Queued) (due marks : Marks) where
  abbrev goes : Bool
  goes = list_all (stands_aside script) (drop (i + 1) items) && is_left_out script (plain_area script (get_or items i d)) newest

  with_aside : (aside goes_on : Bool) → list_all (stands_aside script) (drop (i + 1) items) ≡ aside
      → (aside && is_left_out script (plain_area script (get_or items i d)) newest) ≡ goes_on → goes ≡ goes_on
  with_aside aside goes_on are is = ap (λ b. b && is_left_out script (plain_area script (get_or items i d)) newest) are ∙ is

  -- this item surely has to be sent
  pub sent-here : (aside : Bool) → i < length items → list_all (stands_aside script) (drop (i + 1) items) ≡ aside
      → (aside && is_left_out script (plain_area script (get_or items i d)) newest) ≡ false
      → items_marked script marks (surely_sent script (drop i items) newest) ≡ due
      → items_marked script (step_marked marks (step_at script.steps (get_or items i d).step)) (surely_sent script (drop (i + 1) items) newest) ≡ due
  unfolding surely_sent
  sent-here aside lt are stays so_far = let here = rw (drop_more items i d lt, with_aside aside false are stays) at so_far in here

  -- it need not be sent
  pub left-here : (aside : Bool) → i < length items → list_all (stands_aside script) (drop (i + 1) items) ≡ aside
      → (aside && is_left_out script (plain_area script (get_or items i d)) newest) ≡ true
      → items_marked script marks (surely_sent script (drop i items) newest) ≡ due
      → items_marked script marks (surely_sent script (drop (i + 1) items) newest) ≡ due
  unfolding surely_sent
  left-here aside lt are leaves so_far = let here = rw (drop_more items i d lt, with_aside aside true are leaves) at so_far in here

-- no older item is left
pub newest-left : (script : Script) (items newest : List Queued) (i : ℕ) (due marks : Marks) → length items ≤ i
    → items_marked script marks (surely_sent script (drop i items) newest) ≡ due → items_marked script marks newest ≡ due
unfolding surely_sent
newest-left script items newest i due marks le so_far = rw (drop_all i items le) at so_far

-- where items stand aside from ------------------------------------------------------------------------------------------

-- what is behind stands aside too
aside_behind : (script : Script) (items : List Queued) (n m : ℕ) → n ≤ m → list_all (stands_aside script) (drop n items) ≡ true → list_all (stands_aside script) (drop m items) ≡ true
aside_behind script items zero zero le aside = aside
aside_behind script [] zero (suc m) le aside = refl
aside_behind script (item ∷ items) zero (suc m) le aside =
    aside_behind script items zero m (omega arith) (second (stands_aside script item) (list_all (stands_aside script) items) aside)
  where
    second : (a b : Bool) → (a && b) ≡ true → b ≡ true
    second true b both = both
    second false b both = absurd cc
aside_behind script items (suc n) zero le aside = absurd (omega (arith, le))
aside_behind script [] (suc n) (suc m) le aside = refl
aside_behind script (item ∷ items) (suc n) (suc m) le aside = aside_behind script items n m (omega (arith, le)) aside

-- nor do all stand aside where one doesn't
not_all : (script : Script) (items : List Queued) (n k : ℕ) (d : Queued) → n ≤ k → k < length items → stands_aside script (get_or items k d) ≡ false → list_all (stands_aside script) (drop n items) ≡ false
not_all script [] n k d le lt stays = absurd (omega (arith, lt))
not_all script (item ∷ items) zero zero d le lt stays = ap (λ b. b && list_all (stands_aside script) items) stays
not_all script (item ∷ items) zero (suc k) d le lt stays = last (stands_aside script item) _ (not_all script items zero k d (omega arith) (omega (arith, lt)) stays)
  where
    last : (a b : Bool) → b ≡ false → (a && b) ≡ false
    last true b none = none
    last false b none = refl
not_all script (item ∷ items) (suc n) zero d le lt stays = absurd (omega (arith, le))
not_all script (item ∷ items) (suc n) (suc k) d le lt stays = not_all script items n k d (omega (arith, le)) (omega (arith, lt)) stays

-- from the first place on
pub all_aside : (script : Script) (items : List Queued) → list_all (stands_aside script) (drop 0 items) ≡ true → AsideFrom script items 0
all_aside script items aside place le = aside_behind script items 0 place (omega arith) aside ∙ sym (le-leb 0 place (omega arith))

-- from behind one that doesn't
pub aside_from : (script : Script) (items : List Queued) (from : ℕ) (d : Queued) → 0 < from → from ≤ length items → list_all (stands_aside script) (drop from items) ≡ true
    → stands_aside script (get_or items (from - 1) d) ≡ false → AsideFrom script items from
aside_from script items from d first le aside stays place few = by (nat_le from place) refl
  where
    by : (b : Bool) → nat_le from place ≡ b → list_all (stands_aside script) (drop place items) ≡ nat_le from place
    by true e = aside_behind script items from place (leb-true from place e) aside ∙ sym e
    by false e = not_all script items place (from - 1) d (omega (arith, leb-false from place e)) (omega (arith, first, le)) stays ∙ sym e

-- one more stands aside
pub one_aside : (script : Script) (items : List Queued) (from : ℕ) (d : Queued) → 0 < from → from ≤ length items → list_all (stands_aside script) (drop from items) ≡ true
    → stands_aside script (get_or items (from - 1) d) ≡ true → list_all (stands_aside script) (drop (from - 1) items) ≡ true
one_aside script items from d first le aside this =
    let next : (from - 1) + 1 ≡ from = omega (arith, first) in
    let here = drop_more items (from - 1) d (omega (arith, first, le)) in
    ap (λ rest. list_all (stands_aside script) rest) here
    ∙ (λ i. this i && list_all (stands_aside script) (drop (next i) items)) ∙ aside
