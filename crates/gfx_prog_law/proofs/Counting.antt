-- How many records there may be: one for each cell.
use Rattle.std.proofs.Common.{◌≡◌, ◌∙◌, ◌+◌, ◌-◌, ◌*◌, ◌/◌, ◌<◌, ◌≤◌, ℕ, suc, Bool, true, false, true≢false, cond, ◌||◌, List, [], ◌∷◌, map, length, Option, Some, None, is_some, refl, sym, ap, length-append, suc-mul, arith}
use Rattle.std.specs.FinMap.{FinMap, contains_key, empty, get, get-empty, get-remove, len, len-empty, len-remove, remove, same_map}
use Rattle.std.specs.List.{AllByRecursion, flat_map, list_any}
use Rattle.std.specs.Ordering.{eq_by_cmp}
use Rattle.std.proofs.lemmas.List.{length-map}
use Rattle.std.proofs.lemmas.List.FromFn.{length-range_with_len}
use Rattle.gfx_base.specs.declared.geometry.TheConstants.{CELL_SIDE}
use Rattle.gfx_base.specs.Cells.{cell, cells_along, cells_between, cells_met}
use Rattle.gfx_base.specs.Geometry.{sized}
use Rattle.gfx_prog_decode.specs.declared.key.Key.{Key}
use Rattle.gfx_prog_decode.specs.Records.{key_cmp}
use Rattle.gfx_prog_decode.proofs.Keys.{itself, key_same, key_total}
use Rattle.gfx_prog_live.specs.Cells.{cell_key}
use Rattle.gfx_prog_law.specs.Taken.{IsCell}
use Rattle.gfx_prog_law.proofs.Apart.{Met, all-unmap, at-cell, row-cells}
use Rattle.gfx_prog_law.proofs.Sends.{begins-column, begins-row}

-- a key stands in a list
abbrev pub among : List Key → Key → Bool
among keys key = list_any (λ k. eq_by_cmp key_cmp key k) keys

one-less : (b : Bool) (before after most : ℕ) → after ≡ cond b (before - 1) before → after ≤ most → before ≤ suc most
one-less true before after most e few = omega (arith, e, few)
one-less false before after most e few = omega (arith, e, few)

module _ {X : Type 0} where
  none-there : (m : FinMap key_cmp X) → ((key : Key) → contains_key m key ≡ true → ⊥) → m ≡ empty
  none-there m none = same_map key_total key_same m empty (λ q. by q (get m q) refl ∙ sym (get-empty key_cmp q))
    where
      by : (q : Key) (o : Option X) → get m q ≡ o → o ≡ None
      by q None e = refl
      by q (Some x) e = absurd (none q (ap is_some e))

  -- a key that is left once one is removed
  left : (m : FinMap key_cmp X) (k key : Key) (keys : List Key) → contains_key (remove m k) key ≡ true → (contains_key m key ≡ true → among (k ∷ keys) key ≡ true) → among keys key ≡ true
  left m k key keys has there = by (eq_by_cmp key_cmp key k) refl (ap is_some (sym (get-remove key_total m k key)) ∙ has)
    where
      by : (b : Bool) → eq_by_cmp key_cmp key k ≡ b → is_some (cond b None (get m key)) ≡ true → among keys key ≡ true
      by true e is = absurd (true≢false (sym is))
      by false e is = ap (λ b. b || among keys key) (sym e) ∙ there is

  -- there are no more keys than in a list that they stand in
  pub few-keys : (m : FinMap key_cmp X) (keys : List Key) → ((key : Key) → contains_key m key ≡ true → among keys key ≡ true) → len m ≤ length keys
  few-keys m [] there =
      let nothing : len m ≡ 0 = ap len (none-there m (λ key has. true≢false (sym (there key has)))) ∙ len-empty key_cmp X in
      omega (arith, nothing)
  few-keys m (k ∷ keys) there =
      one-less (contains_key m k) (len m) (len (remove m k)) (length keys) (len-remove key_total m k)
      (few-keys (remove m k) keys (λ key has. left m k key keys has (there key)))

-- ---- the cells of a surface

-- the keys of the cells of a surface of these sides
abbrev pub cell-keys : ℕ → ℕ → ℕ → List Key
cell-keys id width height = map (cell_key id) (cells_met (sized width height))

length-row : (xs : List ℕ) (y : ℕ) → length (row-cells xs y) ≡ length xs
length-row [] y = refl
length-row (x ∷ xs) y = ap suc (length-row xs y)

length-rows : (xs ys : List ℕ) → length (flat_map (row-cells xs) ys) ≡ length ys * length xs
length-rows xs [] = omega arith
length-rows xs (y ∷ ys) =
    length-append (row-cells xs y) (flat_map (row-cells xs) ys)
    ∙ (λ i. length-row xs y i + length-rows xs ys i)
    ∙ sym (suc-mul (length ys) (length xs) ∙ omega arith)

length-between : (to : ℕ) → length (cells_between 0 to) ≡ cells_along to
length-between to = length-range_with_len (0 / CELL_SIDE) (cells_along to - 0 / CELL_SIDE) ∙ omega arith

-- there are so many
pub length-cell-keys : (id width height : ℕ) → length (cell-keys id width height) ≡ cells_along height * cells_along width
length-cell-keys id width height =
    length-map (cells_met (sized width height)) (cell_key id)
    ∙ length-rows (cells_between 0 width) (cells_between 0 height)
    ∙ (λ i. length-between height i * length-between width i)

neither : (a b : Bool) → (a || b) ≡ false → (a ≡ false) × (b ≡ false)
neither true b e = absurd (true≢false e)
neither false b e = (refl, e)

none-of : (keys : List Key) (key : Key) → among keys key ≡ false → AllByRecursion (λ k. eq_by_cmp key_cmp key k ≡ false) keys
none-of [] key none = tt
none-of (k ∷ keys) key none = let both = neither (eq_by_cmp key_cmp key k) (among keys key) none in (both.0, none-of keys key both.1)

-- each cell of the surface is one of them
pub cell-among : (id width height : ℕ) (key : Key) → IsCell id width height key → among (cell-keys id width height) key ≡ true
cell-among id width height key is = by (among (cell-keys id width height) key) refl
  where
    same : key ≡ cell_key id (cell key.x key.y)
    same = λ i. record { surface = is.0 i; context = is.1 i; x = key.x; y = key.y }

    met : Met (sized width height) (cell key.x key.y)
    met =
        let column : CELL_SIDE * key.x < width = begins-column width height key.x key.y is.2 in
        let row : CELL_SIDE * key.y < height = begins-row width height key.x key.y is.2 in
        record { left = omega arith; right = column; top = omega arith; bottom = row }

    by : (b : Bool) → among (cell-keys id width height) key ≡ b → b ≡ true
    by true e = refl
    by false e =
        let apart : eq_by_cmp key_cmp key (cell_key id (cell key.x key.y)) ≡ false =
        at-cell (λ c. eq_by_cmp key_cmp key (cell_key id c) ≡ false) (sized width height) (cell key.x key.y)
        (all-unmap (cell_key id) (λ c. eq_by_cmp key_cmp key (cell_key id c) ≡ false) (λ k. eq_by_cmp key_cmp key k ≡ false) (λ c h. h) (cells_met (sized width height)) (none-of (cell-keys id width height) key e)) met in
        absurd (true≢false (sym (itself key) ∙ ap (eq_by_cmp key_cmp key) same ∙ apart))
