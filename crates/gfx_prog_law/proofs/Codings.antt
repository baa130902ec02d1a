-- How a client reads a tile to be coded is how the server coded it.
use Rattle.std.proofs.Common.{◌≡◌, ◌≢◌, ◌∙◌, ℕ, zero, suc, ◌<◌, ◌≤◌, Bool, true, false, List, [], ◌∷◌, length, Some, Ok, refl, ap, arith, if◌then◌else◌, ◌==◌}
use Rattle.std.specs.Prelude.{slice_get}
use Rattle.std.proofs.lemmas.Bool.{eqb-false, eqb-true, ne_eqb}
use Rattle.gfx_base.specs.declared.refusal.Refusal.TheVariants.{TileOutside}
use Rattle.gfx_base.specs.Results.{and_then, check}
use Rattle.gfx_base.proofs.ResultLemmas.{and_then_at}
use Rattle.gfx_quant.specs.declared.quant.Component.TheVariants.{Y, Cb, Cr}
use Rattle.gfx_quant.specs.declared.setting.Level.{Level}
use Rattle.gfx_quant.specs.declared.setting.Setting.{Setting}
use Rattle.gfx_quant.specs.Setting.{IsSetting, left_out}
use Rattle.gfx_quant.proofs.Accepted.{left-behind}
use Rattle.gfx_tile_make.specs.Levels.{positions_at}
use Rattle.gfx_tile_make.proofs.Settings.{some-level}
use Rattle.gfx_prog_block.specs.declared.quants.RegionLevel.{RegionLevel}
use Rattle.gfx_prog_block.specs.declared.tile.Tile.{Tile}
use Rattle.gfx_prog_block.specs.declared.tile.TheConstants.{NO_QUALITY}
use Rattle.gfx_prog_encode.specs.declared.send.TileSend.{TileSend}
use Rattle.gfx_prog_encode.specs.Messages.{head_of, levels_from, packed, quality_of, region_of}
use Rattle.gfx_prog_encode.proofs.Regions.{listed_as}
use Rattle.gfx_prog_decode.specs.Coding.{Coding, Numbers, base_at, bases_of, begins_in, coding_of, left_at, left_by, unpacked}
use Rattle.gfx_prog_law.proofs.Heads.{transform-again}
use Rattle.gfx_prog_law.proofs.Quants.{bases-small, levels-small, of_bands, together-at, unpacked-packed}

-- how the tiles of a setting are coded at a level
abbrev pub coding_at : Setting → ℕ → Coding
coding_at setting level = record {
  transform = setting.transform;
  y = positions_at setting.y.values (left_out Y setting.levels level);
  cb = positions_at setting.cb.values (left_out Cb setting.levels level);
  cr = positions_at setting.cr.values (left_out Cr setting.levels level);
}

-- what a level leaves out, band by band
abbrev numbers-left : List Level → ℕ → Numbers
numbers-left levels level = record {
  y = of_bands (left_out Y levels level);
  cb = of_bands (left_out Cb levels level);
  cr = of_bands (left_out Cr levels level);
}

-- a quality names a level: the client reads it so
abbrev pub Names : Setting → ℕ → ℕ → Type 0
Names setting quality level = left_at (levels_from 0 setting.levels) quality ≡ Ok (numbers-left setting.levels level)

-- ---- what a quality leaves out

-- a listed level in a region
record IsListed (levels : List Level) (i : ℕ) (listed : RegionLevel) : Type 0 where
  y_is : listed.y ≡ packed (left_out Y levels i)
  cb_is : listed.cb ≡ packed (left_out Cb levels i)
  cr_is : listed.cr ≡ packed (left_out Cr levels i)

-- each listed level stands in its place
level-there : (quality : ℕ) (levels : List Level) (i : ℕ) → i < length levels → (listed : RegionLevel) × ((slice_get (levels_from quality levels) i ≡ Some listed) × IsListed levels i listed)
unfolding levels_from
level-there quality [] i h = absurd (omega arith)
level-there quality (level ∷ levels) zero h = (listed_as quality level, (refl, record { y_is = refl; cb_is = refl; cr_is = refl }))
level-there quality (level ∷ levels) (suc i) h =
    let found = level-there (suc quality) levels i (omega arith) in
    (found.0, (found.1.0, record { y_is = found.1.1.y_is; cb_is = found.1.1.cb_is; cr_is = found.1.1.cr_is }))

-- what it leaves out is what the setting's level does
left-listed : (setting : Setting) (level : ℕ) (listed : RegionLevel) → IsSetting setting → IsListed setting.levels level listed → left_by listed ≡ numbers-left setting.levels level
left-listed setting level listed set is = λ i. record {
  y = (ap unpacked is.y_is ∙ unpacked-packed (left_out Y setting.levels level) (levels-small setting Y level set)) i;
  cb = (ap unpacked is.cb_is ∙ unpacked-packed (left_out Cb setting.levels level) (levels-small setting Cb level set)) i;
  cr = (ap unpacked is.cr_is ∙ unpacked-packed (left_out Cr setting.levels level) (levels-small setting Cr level set)) i;
}

-- that is what its quality leaves out
listed-left : (levels : List RegionLevel) (quality : ℕ) (listed : RegionLevel) → ◌≢◌ quality NO_QUALITY → slice_get levels quality ≡ Some listed → left_at levels quality ≡ Ok (left_by listed)
unfolding left_at and_then
listed-left levels quality listed apart got =
    let other : (quality == NO_QUALITY) ≡ false = ne_eqb quality NO_QUALITY apart in
    rw (other, got) refl

-- a listed level has the quality of its place
pub place-names : (setting : Setting) (level : ℕ) → IsSetting setting → level < length setting.levels → Names setting level level
place-names setting level set h =
    let found = level-there 0 setting.levels level h in
    let few : length setting.levels ≤ 7 = set.few in
    listed-left (levels_from 0 setting.levels) level found.0 (λ e. omega (arith, e)) found.1.0 ∙ ap Ok (left-listed setting level found.0 set found.1.1)

-- behind the listed levels nothing is left out
numbers-none : (levels : List Level) (level : ℕ) → length levels ≤ level → numbers-left [] 0 ≡ numbers-left levels level
numbers-none levels level h = λ i. record { y = of_bands (left-behind Y levels level h i); cb = of_bands (left-behind Cb levels level h i); cr = of_bands (left-behind Cr levels level h i) }

-- so no quality names the level behind them
none-names : (setting : Setting) (level : ℕ) → length setting.levels ≤ level → Names setting NO_QUALITY level
unfolding left_at
none-names setting level h = ap Ok (numbers-none setting.levels level h)

-- quality 0 names the first level
pub first-names : (setting : Setting) → IsSetting setting → Names setting 0 0
first-names setting set = place-names setting 0 set (some-level setting set.accepted)

-- what is at most a number and another is below it
below-other : (a b : ℕ) → a ≤ b → (a == b) ≡ false → a < b
below-other a b h e = let apart : ◌≢◌ a b = eqb-false a b e in omega arith

-- the quality of a level names it
pub quality-names : (setting : Setting) (level : ℕ) → IsSetting setting → level ≤ length setting.levels → Names setting (quality_of setting level) level
quality-names setting level set h = by (level == length setting.levels) refl
  where
    by : (last : Bool) → (level == length setting.levels) ≡ last → Names setting (if last then NO_QUALITY else level) level
    by true e = none-names setting level (omega (arith, eqb-true level (length setting.levels) e))
    by false e = place-names setting level set (below-other level (length setting.levels) h e)

-- ---- the coding

-- the bases are read as they are
bases-again : (setting : Setting) (send : TileSend) → IsSetting setting
    → bases_of (packed setting.y.values ∷ packed setting.cb.values ∷ packed setting.cr.values ∷ []) (head_of send)
    ≡ Ok (record { y = of_bands setting.y.values; cb = of_bands setting.cb.values; cr = of_bands setting.cr.values })
unfolding bases_of base_at and_then
bases-again setting send set = λ i. Ok (record {
  y = unpacked-packed setting.y.values (bases-small setting Y set) i;
  cb = unpacked-packed setting.cb.values (bases-small setting Cb set) i;
  cr = unpacked-packed setting.cr.values (bases-small setting Cr set) i;
})

-- the client reads how a tile is coded at the level that its quality names
pub coding-again : (setting : Setting) (sends : List TileSend) (tiles : List Tile) (width height : ℕ) (send : TileSend) (quality level : ℕ) → IsSetting setting
    → begins_in width height send.cell.x send.cell.y ≡ true → Names setting quality level → coding_of (region_of setting sends tiles) width height (head_of send) quality ≡ Ok (coding_at setting level)
unfolding coding_of
coding-again setting sends tiles width height send quality level set begins names =
    and_then_at (bases_of (packed setting.y.values ∷ packed setting.cb.values ∷ packed setting.cr.values ∷ []) (head_of send)) _ _ (bases-again setting send set)
    ∙ and_then_at (check TileOutside (begins_in width height send.cell.x send.cell.y)) tt _ (ap (check TileOutside) begins)
    ∙ and_then_at (left_at (levels_from 0 setting.levels) quality) _ _ names
    ∙ ap Ok (λ i. record {
      transform = transform-again setting.transform i;
      y = together-at setting.y.values (left_out Y setting.levels level) i;
      cb = together-at setting.cb.values (left_out Cb setting.levels level) i;
      cr = together-at setting.cr.values (left_out Cr setting.levels level) i;
    })
