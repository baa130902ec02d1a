-- What the codes of a tile at its source are to a decoder.
use Rattle.std.proofs.Common.{◌≡◌, ◌∙◌, ℕ, ◌<◌, ◌≤◌, ℤ, List, length, take, drop, sym, ap, subst, arith, Ok}
use Rattle.std.proofs.lemmas.List.{length-take-le, take-append-drop}
use Rattle.std.proofs.lemmas.List.Sums.{list_all-from_AllPass}
use Rattle.gfx_base.proofs.ResultLemmas.{and_then_at}
use Rattle.gfx_rlgr.specs.declared.mode.Mode.{Mode}
use Rattle.gfx_rlgr.specs.Rlgr.{Decodes, in_range}
use Rattle.gfx_rlgr.specs.Writes.{encoded}
use Rattle.gfx_rlgr.proofs.PairBound.{short-bytes}
use Rattle.gfx_rlgr.proofs.RoundTrip.{written-decodes}
use Rattle.gfx_rlgr.proofs.Writes.{always-encoded}
use Rattle.gfx_dwt.specs.declared.layout.Transform.{Transform}
use Rattle.gfx_dwt.specs.declared.layout.Transform.TheVariants.{Plain}
use Rattle.gfx_dwt.specs.declared.layout.Band.{Band}
use Rattle.gfx_dwt.specs.declared.layout.Band.TheVariants.{Ll3}
use Rattle.gfx_dwt.specs.Place.{number, start}
use Rattle.gfx_dwt.specs.Ranges.{AllCoefficients, Within, at}
use Rattle.gfx_dwt.specs.Samples.{sample}
use Rattle.gfx_quant.specs.declared.quant.Component.{Component}
use Rattle.gfx_quant.specs.declared.quant.Component.TheVariants.{Y, Cb, Cr}
use Rattle.gfx_quant.specs.Coefficient.{dequantised, truncated}
use Rattle.gfx_quant.specs.Colour.{colour_of}
use Rattle.gfx_quant.specs.Planes.{Dequantises}
use Rattle.gfx_quant.specs.Quant.{value_of}
use Rattle.gfx_quant.specs.Setting.{base_of, left_out}
use Rattle.gfx_tile_state.specs.Passes.{added, blank}
use Rattle.gfx_tile_state.proofs.Parts.{added-blank}
use Rattle.gfx_tile_state.proofs.Places.{is-coefficient}
use Rattle.gfx_tile_make.specs.Levels.{MayBeSent, StaysWithin, direct_pixel, direct_plane, first_values, positions_at, record_at, record_by, summed_at, truncated_plane}
use Rattle.gfx_tile_make.specs.Source.{Planes as SourcePlanes, SourceTile, planes_of, sent}
use Rattle.gfx_tile_make.proofs.ByBand.{is-by_band, length-by_band}
use Rattle.gfx_tile_make.proofs.Differing.{AreFirst, all-in-range, all-small, are-first}
use Rattle.gfx_tile_make.proofs.InRange.{truncated-none}
use Rattle.gfx_tile_make.proofs.Records.{position-of, summed-first, values-have}
use Rattle.gfx_tile_make.proofs.Settings.{behind-none}
use Rattle.gfx_tile_make.proofs.Sources.{last-direct, plain-kept, sent-whole, sent-within}
use Rattle.gfx_prog_block.specs.declared.tile.TileHead.{TileHead}
use Rattle.gfx_rfx_video.specs.Message.{AreShort, bases_by, code_of, coded_tile, codes_of, direct_planes}
use Rattle.gfx_rfx_video.specs.Tiles.{coefficients_of, pixel_of, planes_by}
use Rattle.gfx_rfx_video.proofs.Decoded.{planned}

module _ (source : SourceTile) (component : Component) (may : MayBeSent source) (plain : source.setting.transform ≡ Plain) where
  -- its planes, its base, and what the level behind the listed ones leaves out
  abbrev planes : SourcePlanes
  planes = planes_of source component

  abbrev base : List ℕ
  base = base_of component source.setting

  abbrev left : List ℕ
  left = left_out component source.setting.levels (length source.setting.levels)

  -- its values there
  abbrev values : List ℤ
  values = truncated_plane Plain left (sent planes)

  none-left : (band : Band) → value_of left band ≡ 0
  none-left band = behind-none component source.setting.levels (length source.setting.levels) (number band) (omega arith)

  whole : length (sent planes) ≡ 4096
  whole = sent-whole source component may

  values-sent : values ≡ sent planes
  values-sent =
      sym (is-by_band Plain (λ band v. truncated band v (value_of left band)) (sent planes) (sent planes) whole whole
      (λ k h. sym (ap (truncated _ (at (sent planes) k)) (none-left _) ∙ truncated-none _ (at (sent planes) k))))

  values-long : length values ≡ 4096
  values-long = length-by_band Plain (λ band v. truncated band v (value_of left band)) (sent planes) ∙ whole

  values-small : (k : ℕ) → k < length values → Within 1024 (at values k)
  values-small k h = subst (λ l. Within 1024 (at l k)) (sym values-sent) (sent-within source component k may (omega (arith, values-long)))

  coded : AreFirst (first_values Plain values)
  coded =
      are-first (take (start Plain Ll3) values) (drop (start Plain Ll3) values) values (sym (take-append-drop (start Plain Ll3) values)) values-long
      (omega (arith, length-take-le (start Plain Ll3) values (omega (arith, values-long)))) values-small

  -- the code of a component is short
  pub code-short : (mode : Mode) → length (code_of mode source component) ≤ 65535
  code-short mode =
      subst (λ l. length (encoded mode (first_values Plain l)) ≤ 65535) (sym (ap (λ t. truncated_plane t left (sent planes)) plain))
      (short-bytes mode (first_values Plain values) (encoded mode (first_values Plain values)) coded.all (all-small (first_values Plain values) coded) (always-encoded mode (first_values Plain values) coded.all))

  read : (mode : Mode) → Decodes mode (encoded mode (first_values Plain values)) (Ok (first_values Plain values))
  read mode =
      written-decodes mode (first_values Plain values) (encoded mode (first_values Plain values)) coded.all (list_all-from_AllPass in_range (first_values Plain values) (all-in-range (first_values Plain values) coded))
      (always-encoded mode (first_values Plain values) coded.all)

  stays : StaysWithin (record_by Plain base left planes)
  stays = subst (λ t. StaysWithin (record_by t base left planes)) plain (may.fits component (length source.setting.levels) (omega arith))

  -- the sums of the record at that level
  abbrev sums : List ℤ
  sums = (record_by Plain base left planes).sums

  sums-long : length sums ≡ 4096
  sums-long = length-by_band Plain (summed_at base left) (sent planes) ∙ whole

  position : (band : Band) → value_of (positions_at base left) band ≡ value_of base band
  position band = position-of base left band ∙ omega (arith, none-left band)

  done : Dequantises Plain base values sums
  done band k lies = ap (dequantised (at values k)) (sym (position band)) ∙ values-have Plain base left planes band k whole stays lies

  small : AllCoefficients sums
  small k h = is-coefficient (at sums k) (stays k (omega (arith, sums-long))).0

  direct : planes.kept ≡ blank → sums ≡ direct_plane Plain base planes.own
  direct none =
      let kept : (record_at source component (length source.setting.levels)).kept ≡ blank = plain-kept source component (length source.setting.levels) none in
      let last : added blank (record_at source component (length source.setting.levels)).sums ≡ direct_plane source.setting.transform base planes.own =
      ap (λ l. added l (record_at source component (length source.setting.levels)).sums) (sym kept) ∙ last-direct source component may in
      let here : added blank sums ≡ direct_plane Plain base planes.own =
      subst (λ t. added blank (record_by t base left planes).sums ≡ direct_plane t base planes.own) plain last in
      sym (added-blank sums sums-long) ∙ here

  -- the code of a component says the coefficients of its own values
  pub code-direct : (mode : Mode) → planes.kept ≡ blank → coefficients_of mode base (code_of mode source component) ≡ Ok (direct_plane Plain base planes.own)
  code-direct mode none =
      ap (λ l. coefficients_of mode base (encoded mode (first_values Plain l))) (ap (λ t. truncated_plane t left (sent planes)) plain)
      ∙ planned mode base (encoded mode (first_values Plain values)) (first_values Plain values) values sums (read mode) (sym (summed-first Plain values values-long)) sums-long done small
      ∙ ap (λ l. Ok l) (direct none)

-- so are a tile's codes
pub codes-short : (mode : Mode) (source : SourceTile) → MayBeSent source → source.setting.transform ≡ Plain → AreShort (codes_of mode source)
unfolding codes_of
codes-short mode source may plain = (code-short source Y may plain mode, code-short source Cb may plain mode, code-short source Cr may plain mode)

-- and they show its own values
pub tile-direct : (mode : Mode) (source : SourceTile) (head : TileHead) → MayBeSent source → source.setting.transform ≡ Plain → ((component : Component) → (planes_of source component).kept ≡ blank)
    → planes_by mode (bases_by source.setting) (coded_tile head (codes_of mode source)) ≡ Ok (direct_planes source)
unfolding planes_by codes_of
tile-direct mode source head may plain none =
    and_then_at (coefficients_of mode source.setting.y.values (code_of mode source Y)) (direct_planes source).y _ (code-direct source Y may plain mode (none Y))
    ∙ and_then_at (coefficients_of mode source.setting.cb.values (code_of mode source Cb)) (direct_planes source).cb _ (code-direct source Cb may plain mode (none Cb))
    ∙ and_then_at (coefficients_of mode source.setting.cr.values (code_of mode source Cr)) (direct_planes source).cr _ (code-direct source Cr may plain mode (none Cr))

pub pixel-direct : (source : SourceTile) → source.setting.transform ≡ Plain → (y x : ℕ) → pixel_of (direct_planes source) y x ≡ direct_pixel source y x
pixel-direct source plain y x i =
    let t : Transform = sym plain i in
    colour_of (sample t (direct_plane t source.setting.y.values source.y.own) y x) (sample t (direct_plane t source.setting.cb.values source.cb.own) y x) (sample t (direct_plane t source.setting.cr.values source.cr.own) y x)
