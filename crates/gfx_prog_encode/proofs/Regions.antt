-- What a region has beside its tiles, and that all of a message fits its fields.
use Rattle.std.proofs.Common.{◌≡◌, ℕ, suc, ◌+◌, ◌*◌, ◌<◌, ◌≤◌, List, [], ◌∷◌, ◌++◌, length, take, map, get_or, refl, sym, ap, ◌∙◌, arith}
use Rattle.std.proofs.lemmas.List.{length-map, length-take, take_more}
use Rattle.std.proofs.lemmas.List.Sums.{sum_by-cons}
use Rattle.std.specs.List.{AllByRecursion, sum_by}
use Rattle.gfx_quant.specs.declared.setting.Level.{Level}
use Rattle.gfx_quant.specs.declared.setting.Setting.{Setting}
use Rattle.gfx_quant.specs.Quant.{quant_bytes}
use Rattle.gfx_prog_block.specs.declared.quants.PackedQuant.{PackedQuant}
use Rattle.gfx_prog_block.specs.declared.quants.RegionLevel.{RegionLevel}
use Rattle.gfx_prog_block.specs.declared.region.Region.{Region}
use Rattle.gfx_prog_block.specs.declared.tile.Tile.{Tile}
use Rattle.gfx_prog_block.specs.declared.tile.Tile.TheVariants as tiles
use Rattle.gfx_prog_block.specs.Fitting.{IsSpellable, IsSpellableRegion, IsSpellableTile}
use Rattle.gfx_prog_block.specs.Shapes.{quant_digits}
use Rattle.gfx_prog_block.specs.Spelling.{tile_size}
use Rattle.gfx_prog_block.proofs.WritingLaws.{first-measure, region-measure, simple-measure, upgrade-measure}
use Rattle.gfx_prog_encode.specs.declared.send.TileSend.{TileSend}
use Rattle.gfx_prog_encode.specs.Messages.{area_of, blocks_of, levels_from, packed, region_of}

-- ---- levels

-- a level in a region
abbrev pub listed_as : ℕ → Level → RegionLevel
listed_as quality level = record { quality = quality; y = packed level.y.values; cb = packed level.cb.values; cr = packed level.cr.values }

levels-behind : (quality : ℕ) (front : List Level) (level : Level) → levels_from quality (front ++ level ∷ []) ≡ levels_from quality front ++ listed_as (quality + length front) level ∷ []
unfolding levels_from
levels-behind quality [] level = ap (λ n. listed_as n level ∷ []) {x = quality} {y = quality + 0} (omega arith)
levels-behind quality (first ∷ front) level =
    ap (λ others. listed_as quality first ∷ others) (levels-behind (suc quality) front level)
    ∙ ap (λ n. listed_as quality first ∷ (levels_from (suc quality) front ++ listed_as n level ∷ [])) {x = suc quality + length front} {y = quality + length (first ∷ front)} (omega arith)

pub length-levels : (quality : ℕ) (levels : List Level) → length (levels_from quality levels) ≡ length levels
unfolding levels_from
length-levels quality [] = refl
length-levels quality (level ∷ levels) = ap suc (length-levels (suc quality) levels)

pub packed-is : (quant : PackedQuant) (values : List ℕ) → quant_digits quant ≡ quant_bytes values → quant ≡ packed values
packed-is quant values is = λ i. record {
  ll3_hl3 = get_or (is i) 0 0;
  lh3_hh3 = get_or (is i) 1 0;
  hl2_lh2 = get_or (is i) 2 0;
  hh2_hl1 = get_or (is i) 3 0;
  lh1_hh1 = get_or (is i) 4 0;
}

-- one level more
pub levels-more : (levels : List Level) (i : ℕ) (level : Level) (y cb cr : PackedQuant) → i < length levels → level ≡ get_or levels i level
    → quant_digits y ≡ quant_bytes level.y.values → quant_digits cb ≡ quant_bytes level.cb.values → quant_digits cr ≡ quant_bytes level.cr.values
    → levels_from 0 (take i levels) ++ (record { quality = i; y = y; cb = cb; cr = cr }) ∷ [] ≡ levels_from 0 (take (i + 1) levels)
levels-more levels i level y cb cr h is y_is cb_is cr_is =
    let entry : ◌≡◌ {A = RegionLevel} (record { quality = i; y = y; cb = cb; cr = cr }) (listed_as i level) =
    λ j. record { quality = i; y = packed-is y level.y.values y_is j; cb = packed-is cb level.cb.values cb_is j; cr = packed-is cr level.cr.values cr_is j } in
    ap (λ e. levels_from 0 (take i levels) ++ e ∷ []) entry
    ∙ ap (λ n. levels_from 0 (take i levels) ++ listed_as n level ∷ []) {x = i} {y = 0 + length (take i levels)} (omega (arith, h, length-take i levels))
    ∙ sym (levels-behind 0 (take i levels) level)
    ∙ ap (λ l. levels_from 0 (take i levels ++ l ∷ [])) is
    ∙ ap (levels_from 0) (sym (take_more levels i level h))

-- ---- sizes

tile-short : (tile : Tile) → IsSpellableTile tile → tile_size tile ≤ 524288
tile-short (tiles.Simple head flags pass) h = omega (arith, h.0, h.1, h.2, h.3, simple-measure head flags pass)
tile-short (tiles.First head flags quality pass) h = omega (arith, h.0, h.1, h.2, h.3, first-measure head flags quality pass)
tile-short (tiles.Upgrade head quality pass) h =
    omega (arith, h.0, h.1, h.2, h.3, h.4, h.5, upgrade-measure head quality pass)

tiles-short : (all : List Tile) → AllByRecursion IsSpellableTile all → sum_by tile_size all ≤ length all * 524288
tiles-short [] h = omega arith
tiles-short (tile ∷ others) h = omega (arith, sum_by-cons tile_size tile others, tile-short tile h.0, tiles-short others h.1)

pub region-fits : (setting : Setting) (sends : List TileSend) (all : List Tile) → length sends ≤ 256 → length all ≡ length sends → length setting.levels ≤ 7
    → AllByRecursion IsSpellableTile all → IsSpellableRegion (region_of setting sends all)
region-fits setting sends all few each levels short =
    let rects : length (map area_of sends) ≤ 256 = omega (arith, few, length-map sends area_of) in
    let listed : length (levels_from 0 setting.levels) ≤ 7 = omega (arith, levels, length-levels 0 setting.levels) in
    record {
      rects = omega (arith, rects);
      quants = omega arith;
      levels = omega (arith, listed);
      tiles = omega (arith, few, each);
      each = short;
      short = omega (arith, rects, listed, few, each, region-measure (region_of setting sends all), tiles-short all short);
    }

pub blocks-fit : (region : Region) (index : ℕ) → IsSpellableRegion region → AllByRecursion IsSpellable (blocks_of region index)
blocks-fit region index fits = (tt, (tt, (tt, (fits, (tt, tt)))))
