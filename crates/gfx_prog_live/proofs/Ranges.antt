-- Whether a tile is in range, as a test and as a fact.
use Rattle.std.proofs.Common.{◌≡◌, ◌∙◌, ap, refl, ℕ, zero, suc, ◌<◌, ◌≤◌, ◌&&◌, Bool, true, false, ◌⊎◌, inl, inr, length, arith}
use Rattle.std.specs.Cmp.Derive.{both_true}
use Rattle.std.proofs.lemmas.Bool.{cases_lt}
use Rattle.gfx_dwt.specs.Ranges.{at}
use Rattle.gfx_quant.specs.declared.quant.Component.{Component}
use Rattle.gfx_quant.specs.declared.quant.Component.TheVariants.{Y, Cb, Cr}
use Rattle.gfx_quant.specs.Setting.{all_below}
use Rattle.gfx_quant.proofs.Accepted.{each-below}
use Rattle.gfx_tile_state.specs.Passes.{LeavesIt, Part}
use Rattle.gfx_tile_make.specs.Levels.{ComponentFits, ComponentLeaves, Fits, Leaves, StaysWithin, record_at}
use Rattle.gfx_tile_make.specs.Source.{SourceTile}
use Rattle.gfx_prog_live.specs.Tiles.{is_in_range, stays_within}

-- what passes at each number below one
below-each : (n : ℕ) (test : ℕ → Bool) → ((k : ℕ) → k < n → test k ≡ true) → all_below n test ≡ true
unfolding all_below
below-each zero test each = refl
below-each (suc n) test each = both_true (below-each n test (λ k h. each k (omega arith))) (each n (omega arith))

not_both : (a b : Bool) → ((a ≡ false) ⊎ (b ≡ false)) → (a && b) ≡ false
not_both true b (inl e) = cc
not_both true b (inr e) = e
not_both false b e = refl

-- what fails at one
below-not : (n : ℕ) (test : ℕ → Bool) (k : ℕ) → k < n → test k ≡ false → all_below n test ≡ false
unfolding all_below
below-not zero test k h fails = absurd (omega arith)
below-not (suc n) test k h fails = elim (cases_lt k n) [
  | inl less ↦ not_both (all_below n test) (test n) (inl (below-not n test k less fails))
  | inr on ↦ not_both (all_below n test) (test n) (inr (ap test {x = n} {y = k} (omega arith) ∙ fails))
]

both : (a b : Bool) → (a && b) ≡ true → (a ≡ true) × (b ≡ true)
both true b e = (refl, e)
both false b e = cc

-- a record whose sums stay in range
stays : (part : Part) → StaysWithin part → stays_within part ≡ true
stays part h = below-each 4096 _ (λ k less. both_true (h k less).0 (h k less).1)

stays_back : (part : Part) → stays_within part ≡ true → StaysWithin part
stays_back part is k less = both _ _ (each-below 4096 _ is k less)

leaves_it : (part : Part) → LeavesIt part.kept (at part.sums) → stays_within part ≡ false
leaves_it part h = below-not 4096 _ h.0 h.1 (not_both _ _ h.2)

-- a component at each level
abbrev component_stays : SourceTile → Component → Bool
component_stays tile component = all_below (suc (length tile.setting.levels)) (λ level. stays_within (record_at tile component level))

component_fits : (tile : SourceTile) (component : Component) → ComponentFits tile component → component_stays tile component ≡ true
component_fits tile component fits = below-each (suc (length tile.setting.levels)) _ (λ level h. stays (record_at tile component level) (fits level (omega arith)))

component_back : (tile : SourceTile) (component : Component) → component_stays tile component ≡ true → ComponentFits tile component
component_back tile component is level h =
    stays_back (record_at tile component level) (each-below (suc (length tile.setting.levels)) (λ level. stays_within (record_at tile component level)) is level (omega arith))

component_leaves : (tile : SourceTile) (component : Component) → ComponentLeaves tile component → component_stays tile component ≡ false
component_leaves tile component out = below-not (suc (length tile.setting.levels)) _ out.0 (let low : out.0 ≤ length tile.setting.levels = out.1.0 in omega arith) (leaves_it (record_at tile component out.0) out.1.1)

three : (a b c : Bool) → a ≡ true → b ≡ true → c ≡ true → (a && (b && (c && true))) ≡ true
three a b c x y z = both_true x (both_true y (both_true z refl))

not_three : (a b c : Bool) → ((a ≡ false) ⊎ ((b ≡ false) ⊎ (c ≡ false))) → (a && (b && (c && true))) ≡ false
not_three a b c (inl x) = not_both a _ (inl x)
not_three a b c (inr (inl y)) = not_both a _ (inr (not_both b _ (inl y)))
not_three a b c (inr (inr z)) = not_both a _ (inr (not_both b _ (inr (not_both c true (inl z)))))

-- a tile that fits is in range
pub fits_in_range : (tile : SourceTile) → Fits tile → is_in_range tile ≡ true
unfolding is_in_range
fits_in_range tile fits =
    three (component_stays tile Y) (component_stays tile Cb) (component_stays tile Cr)
    (component_fits tile Y (fits Y)) (component_fits tile Cb (fits Cb)) (component_fits tile Cr (fits Cr))

-- one that leaves the range isn't
pub leaves_range : (tile : SourceTile) → Leaves tile → is_in_range tile ≡ false
unfolding is_in_range
leaves_range tile out = not_three (component_stays tile Y) (component_stays tile Cb) (component_stays tile Cr) (by out.0 out.1)
  where
    by : (component : Component) → ComponentLeaves tile component → (component_stays tile Y ≡ false) ⊎ ((component_stays tile Cb ≡ false) ⊎ (component_stays tile Cr ≡ false))
    by Y h = inl (component_leaves tile Y h)
    by Cb h = inr (inl (component_leaves tile Cb h))
    by Cr h = inr (inr (component_leaves tile Cr h))

-- and one in range fits
pub in_range_fits : (tile : SourceTile) → is_in_range tile ≡ true → Fits tile
unfolding is_in_range
in_range_fits tile is = by
  where
    first : (component_stays tile Y ≡ true) × ((component_stays tile Cb && (component_stays tile Cr && true)) ≡ true)
    first = both _ _ is

    second : (component_stays tile Cb ≡ true) × ((component_stays tile Cr && true) ≡ true)
    second = both _ _ first.1

    by : Fits tile
    by Y = component_back tile Y first.0
    by Cb = component_back tile Cb second.0
    by Cr = component_back tile Cr (both _ _ second.1).0
