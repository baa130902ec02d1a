-- What an accepted setting says of each band at each level.
use Rattle.std.proofs.Common.{◌≡◌, ◌∙◌, inl, inr, ℕ, zero, suc, ◌+◌, ◌<◌, ◌≤◌, Bool, true, false, ◌&&◌, List, [], ◌∷◌, length, refl, sym, ap, arith}
use Rattle.std.specs.Prelude.{nat_le, slice_index}
use Rattle.std.proofs.lemmas.Bool.{cases_lt, leb-true, ltb-true}
use Rattle.gfx_quant.specs.declared.quant.Component.{Component}
use Rattle.gfx_quant.specs.declared.quant.Component.TheVariants.{Y, Cb, Cr}
use Rattle.gfx_quant.specs.declared.setting.Level.{Level}
use Rattle.gfx_quant.specs.declared.setting.Setting.{Setting}
use Rattle.gfx_quant.specs.Quant.{is_base, noughts}
use Rattle.gfx_quant.specs.Setting.{base_of, falls_well, is_accepted, is_fine, left_out, stays_within}
use Rattle.gfx_quant.proofs.Accepted.{each-below, left-behind, level-test}
use Rattle.gfx_tile_state.specs.Shape.{AreWithin}
use Rattle.gfx_tile_make.specs.Fitting.{StayWithin}

both : (a b : Bool) → (a && b) ≡ true → (a ≡ true) × (b ≡ true)
both true b e = (refl, e)
both false b e = cc

pub fine-of : (setting : Setting) (component : Component) → is_accepted setting ≡ true → is_fine component (base_of component setting) setting.levels ≡ true
fine-of setting component e = by component (both _ _ (both _ _ e).1)
  where
    by : (component : Component) → (is_fine Y setting.y.values setting.levels ≡ true) × ((is_fine Cb setting.cb.values setting.levels && is_fine Cr setting.cr.values setting.levels) ≡ true) → is_fine component (base_of component setting) setting.levels ≡ true
    by Y h = h.0
    by Cb h = (both _ _ h.1).0
    by Cr h = (both _ _ h.1).1

pub some-level : (setting : Setting) → is_accepted setting ≡ true → 0 < length setting.levels
some-level setting e = ltb-true 0 (length setting.levels) (both _ _ e).0

-- base and level of a band at a listed level
listed-within : (component : Component) (base : List ℕ) (levels : List Level) → is_fine component base levels ≡ true → (i : ℕ) → i < length levels → StayWithin 15 base (left_out component levels i)
unfolding is_fine stays_within
listed-within component base levels e i h k few =
    let test : level-test component base levels i ≡ true = each-below (length levels) (level-test component base levels) (both (is_base base) _ e).1 i h in
    leb-true _ 15 (each-below 10 (λ k. nat_le (slice_index base k + slice_index (left_out component levels i) k) 15) (both _ _ test).0 k few)

none-left : (k : ℕ) → slice_index noughts k ≡ 0
none-left zero = refl
none-left (suc zero) = refl
none-left (suc (suc zero)) = refl
none-left (suc (suc (suc zero))) = refl
none-left (suc (suc (suc (suc zero)))) = refl
none-left (suc (suc (suc (suc (suc zero))))) = refl
none-left (suc (suc (suc (suc (suc (suc zero)))))) = refl
none-left (suc (suc (suc (suc (suc (suc (suc zero))))))) = refl
none-left (suc (suc (suc (suc (suc (suc (suc (suc zero)))))))) = refl
none-left (suc (suc (suc (suc (suc (suc (suc (suc (suc zero))))))))) = refl
none-left (suc (suc (suc (suc (suc (suc (suc (suc (suc (suc k)))))))))) = refl

pub behind-none : (component : Component) (levels : List Level) (i k : ℕ) → length levels ≤ i → slice_index (left_out component levels i) k ≡ 0
behind-none component levels i k h = ap (λ l. slice_index l k) (sym (left-behind component levels i h)) ∙ none-left k

pub within-all : (setting : Setting) (component : Component) (i : ℕ) → is_accepted setting ≡ true → StayWithin 15 (base_of component setting) (left_out component setting.levels i)
within-all setting component i e k few = elim (cases_lt i (length setting.levels)) [
  | inl h ↦ listed-within component (base_of component setting) setting.levels (fine-of setting component e) i h k few
  | inr h ↦
      let first = listed-within component (base_of component setting) setting.levels (fine-of setting component e) 0 (some-level setting e) k few in
      omega (arith, behind-none component setting.levels i k h)
]

-- how far a band falls
falls-of : (level next : List ℕ) → falls_well level next ≡ true → (k : ℕ) → k < 10 → (slice_index next k ≤ slice_index level k) × (slice_index level k ≤ slice_index next k + 6)
unfolding falls_well
falls-of level next e k few =
    let test = both (nat_le (slice_index next k) (slice_index level k)) (nat_le (slice_index level k) (slice_index next k + 6)) (each-below 10 (λ k. nat_le (slice_index next k) (slice_index level k) && nat_le (slice_index level k) (slice_index next k + 6)) e k few) in
    (leb-true _ _ test.0, leb-true _ _ test.1)

pub falls-all : (setting : Setting) (component : Component) (i : ℕ) → is_accepted setting ≡ true → i < length setting.levels → (k : ℕ) → k < 10
    → (slice_index (left_out component setting.levels (suc i)) k ≤ slice_index (left_out component setting.levels i) k) × (slice_index (left_out component setting.levels i) k ≤ slice_index (left_out component setting.levels (suc i)) k + 6)
unfolding is_fine
falls-all setting component i e h k few =
    let base : List ℕ = base_of component setting in
    let test : level-test component base setting.levels i ≡ true = each-below (length setting.levels) (level-test component base setting.levels) (both (is_base base) _ (fine-of setting component e)).1 i h in
    falls-of _ _ (both _ _ test).1 k few

-- the bases, where there are ten
each-base : (values : List ℕ) → is_base values ≡ true → (k : ℕ) → k < length values → 6 ≤ slice_index values k
each-base [] e k h = absurd (omega arith)
each-base (v ∷ values) e zero h = leb-true 6 v (both (nat_le 6 v) _ e).0
each-base (v ∷ values) e (suc k) h = each-base values (both (nat_le 6 v) _ e).1 k (omega arith)

pub bases-within : (setting : Setting) (component : Component) → is_accepted setting ≡ true → length (base_of component setting) ≡ 10 → AreWithin 6 15 (base_of component setting)
unfolding is_fine
bases-within setting component e ten k few =
    let within = within-all setting component 0 e k few in
    (each-base (base_of component setting) (both (is_base (base_of component setting)) _ (fine-of setting component e)).0 k (omega arith), omega arith)

pub is-base : (setting : Setting) (component : Component) → is_accepted setting ≡ true → is_base (base_of component setting) ≡ true
unfolding is_fine
is-base setting component e = (both (is_base (base_of component setting)) _ (fine-of setting component e)).0
