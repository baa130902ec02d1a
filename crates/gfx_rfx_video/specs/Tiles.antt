-- What a tile's codes say: its coefficients, and the pixels that they make ([MS-RDPRFX] 3.1.8.1). The order of the checks is
-- this project's own rule.
use Rattle.std.specs.Prelude.{ℕ, ℤ, Bool, List, [], ◌∷◌, map, slice_get, Result, Ok}
use Rattle.std.specs.List.{list_all}
use Rattle.std.specs.Option.{ok_or}
use Rattle.gfx_base.specs.declared.pixel.Pixel.{Pixel}
use Rattle.gfx_base.specs.declared.refusal.Refusal.{Refusal}
use Rattle.gfx_base.specs.declared.refusal.Refusal.TheVariants.{CoefficientRange, QuantIndex}
use Rattle.gfx_base.specs.Results.{◌>>=◌, check}
use Rattle.gfx_rlgr.specs.declared.mode.Mode.{Mode}
use Rattle.gfx_rlgr.specs.Says.{decoded}
use Rattle.gfx_dwt.specs.declared.layout.Band.{Band}
use Rattle.gfx_dwt.specs.declared.layout.Band.TheVariants.{Hl1, Lh1, Hh1, Hl2, Lh2, Hh2, Hl3, Lh3, Hh3, Ll3}
use Rattle.gfx_dwt.specs.declared.layout.Transform.TheVariants.{Plain}
use Rattle.gfx_dwt.specs.Place.{bands}
use Rattle.gfx_dwt.specs.Samples.{sample}
use Rattle.gfx_quant.specs.Coefficient.{is_coefficient}
use Rattle.gfx_quant.specs.Colour.{colour_of}
use Rattle.gfx_quant.specs.Quant.{is_base, nibble}
use Rattle.gfx_tile_state.specs.Making.{plane_of}
use Rattle.gfx_tile_state.specs.Passes.{summed}
use Rattle.gfx_rfx_video.specs.declared.planes.Planes.{Planes}
use Rattle.gfx_rfx_video.specs.declared.quants.VideoQuant.{VideoQuant}
use Rattle.gfx_rfx_video.specs.declared.tile.CodedTile.{CodedTile}
use Rattle.gfx_prog_block.specs.declared.tile.TileHead.{TileHead}

-- ---- quants (2.2.2.1.5, TS_RFX_CODEC_QUANT)

-- which nibble of the five bytes a band's number is; in the progressive codec HL and LH stand the other way round
abbrev pub video_nibble : Band → ℕ
video_nibble Ll3 = 0
video_nibble Lh3 = 1
video_nibble Hl3 = 2
video_nibble Hh3 = 3
video_nibble Lh2 = 4
video_nibble Hl2 = 5
video_nibble Hh2 = 6
video_nibble Lh1 = 7
video_nibble Hl1 = 8
video_nibble Hh1 = 9

-- its five bytes
abbrev pub quant_text : VideoQuant → List ℕ
quant_text q = q.ll3_lh3 ∷ q.hl3_hh3 ∷ q.lh2_hl2 ∷ q.hh2_lh1 ∷ q.hl1_hh1 ∷ []

-- the numbers that they spell, in the order of bands
abbrev pub quant_numbers : VideoQuant → List ℕ
quant_numbers q = map (λ band. nibble (quant_text q) (video_nibble band)) bands

-- each quant may be a base
abbrev pub are_bases : List VideoQuant → Bool
are_bases quants = list_all (λ q. is_base (quant_numbers q)) quants

-- a number for each band of each component
pub record Bases : Type 0 where
  pub y : List ℕ
  pub cb : List ℕ
  pub cr : List ℕ

-- the numbers of the quant of this index
unfoldable pub base_at : List VideoQuant → ℕ → Result (List ℕ) Refusal
base_at quants index = do
  q ← ok_or (slice_get quants index) QuantIndex
  Ok (quant_numbers q)

-- those of a tile
unfoldable pub bases_of : List VideoQuant → TileHead → Result Bases Refusal
bases_of quants head = do
  y ← base_at quants head.quant_y
  cb ← base_at quants head.quant_cb
  cr ← base_at quants head.quant_cr
  Ok (record { y = y; cb = cb; cr = cr })

-- ---- coefficients

-- the coefficients of a code's values, each at its band's bit position, where all are in range; LL3 is coded as differences
unfoldable pub coefficients_by : List ℕ → List ℤ → Result (List ℤ) Refusal
coefficients_by base values = do
  inside ← check CoefficientRange (list_all is_coefficient (plane_of Plain base (summed Plain values)))
  Ok (plane_of Plain base (summed Plain values))

-- those that a component's bytes say
unfoldable pub coefficients_of : Mode → List ℕ → List ℕ → Result (List ℤ) Refusal
coefficients_of mode base bytes = do
  values ← decoded mode bytes
  coefficients_by base values

-- those of all components, by their bases
unfoldable pub planes_by : Mode → Bases → CodedTile → Result Planes Refusal
planes_by mode base tile = do
  y ← coefficients_of mode base.y tile.y
  cb ← coefficients_of mode base.cb tile.cb
  cr ← coefficients_of mode base.cr tile.cr
  Ok (record { y = y; cb = cb; cr = cr })

-- those of a tile: the indices of its quants come first
unfoldable pub planes_of : Mode → List VideoQuant → CodedTile → Result Planes Refusal
planes_of mode quants tile = do
  base ← bases_of quants tile.head
  planes_by mode base tile

-- ---- pixels

-- the pixel of a row and a column: the colour of the samples of the coefficients
abbrev pub pixel_of : Planes → ℕ → ℕ → Pixel
pixel_of planes y x = colour_of (sample Plain planes.y y x) (sample Plain planes.cb y x) (sample Plain planes.cr y x)
