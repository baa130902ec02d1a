-- The tiles of a picture may be sent.
use Rattle.std.proofs.Common.{◌≡◌, ◌*◌, ◌≤◌, ℕ, List, [], ◌∷◌, length, length-append, map, refl, arith}
use Rattle.std.proofs.lemmas.List.{length-map}
use Rattle.std.specs.List.{AllByRecursion, flat_map}
use Rattle.gfx_base.specs.declared.geometry.Cell.{Cell}
use Rattle.gfx_quant.specs.declared.quant.Component.{Component}
use Rattle.gfx_quant.specs.declared.quant.Component.TheVariants.{Y, Cb, Cr}
use Rattle.gfx_quant.specs.declared.setting.Setting.{Setting}
use Rattle.gfx_quant.specs.Setting.{IsSetting, base_of}
use Rattle.gfx_rlgr.specs.declared.mode.Mode.{Mode}
use Rattle.gfx_script.specs.declared.picture.Picture.{Picture as Drawing}
use Rattle.gfx_tile_state.specs.Passes.{blank}
use Rattle.gfx_tile_make.specs.Source.{planes_of, source_of}
use Rattle.gfx_tile_make.proofs.Sources.{plain-may}
use Rattle.gfx_prog_live.specs.Tiles.{cell_pixels}
use Rattle.gfx_prog_law.proofs.Apart.{Met, all-map, each-met}
use Rattle.gfx_rfx_video.specs.declared.video_tile.VideoTile.{VideoTile}
use Rattle.gfx_rfx_video.specs.Message.{IsSent, codes_of, head_of, tile_text}
use Rattle.gfx_rfx_video.specs.Painted.{IsPlain}
use Rattle.gfx_rfx_video.proofs.Direct.{codes-short}
use Rattle.gfx_rfx_video.proofs.Lengthy.{length-coded, length-data}
use Rattle.gfx_video_paint.specs.Inside.{HasSome}
use Rattle.gfx_video_paint.specs.Video.{laid, squares_of, video_payload, video_setting, video_tile, video_tiles}

-- another transform asks nothing else of a setting
pub is-setting : (setting : Setting) → IsSetting setting → IsSetting (video_setting setting)
is-setting setting is = record { accepted = is.accepted; bases = bases; levels = is.levels; few = is.few }
  where
    bases : (component : Component) → length (base_of component (video_setting setting)) ≡ 10
    bases Y = is.bases Y
    bases Cb = is.bases Cb
    bases Cr = is.bases Cr

module _ (setting : Setting) (picture : Drawing) where
  -- a tile of the picture
  abbrev tile : Cell → VideoTile
  tile square = video_tile setting picture square

  -- of a square that the picture meets: it stands in its rectangle
  pub tile-sent : (width height : ℕ) → width ≡ picture.width → height ≡ picture.height → (square : Cell) → Met (laid picture) square → IsSent (video_setting setting) width height (tile square)
  unfolding video_tile
  tile-sent width height wide high square met = record {
    setting_is = refl;
    plain = refl;
    across = omega (arith, wide, met.right);
    down = omega (arith, high, met.bottom);
  }

  -- it goes on nothing
  pub tile-plain : IsSetting setting → (square : Cell) → IsPlain (tile square)
  unfolding video_tile
  tile-plain is square =
      let fine : IsSetting (video_setting setting) = is-setting setting is in
      record { may = plain-may (video_setting setting) (cell_pixels picture (laid picture) square) fine.accepted fine.bases; kept = kept }
    where
      kept : (component : Component) → (planes_of (source_of (video_setting setting) (cell_pixels picture (laid picture) square)) component).kept ≡ blank
      kept Y = refl
      kept Cb = refl
      kept Cr = refl

  -- so are those of any squares that it meets
  abbrev pub AreMet : List Cell → Type 0
  AreMet squares = AllByRecursion (Met (laid picture)) squares

  pub squares-met : HasSome picture → AreMet (squares_of picture)
  squares-met some = each-met (laid picture) some

  pub tiles-sent : (width height : ℕ) → width ≡ picture.width → height ≡ picture.height → (squares : List Cell) → AreMet squares → AllByRecursion (IsSent (video_setting setting) width height) (map tile squares)
  tiles-sent width height wide high squares met = all-map tile (Met (laid picture)) (IsSent (video_setting setting) width height) (tile-sent width height wide high) squares met

  pub tiles-plain : IsSetting setting → (squares : List Cell) → AllByRecursion IsPlain (map tile squares)
  tiles-plain is [] = tt
  tiles-plain is (square ∷ squares) = (tile-plain is square, tiles-plain is squares)

  -- of all tiles of the picture
  pub all-sent : HasSome picture → AllByRecursion (IsSent (video_setting setting) picture.width picture.height) (video_tiles setting picture)
  all-sent some = tiles-sent picture.width picture.height refl refl (squares_of picture) (squares-met some)

  pub all-plain : IsSetting setting → AllByRecursion IsPlain (video_tiles setting picture)
  all-plain is = tiles-plain is (squares_of picture)

  -- ---- how long a message is

  text-short : (mode : Mode) → IsSetting setting → (square : Cell) → length (tile_text mode (tile square)) ≤ 196624
  unfolding video_tile
  text-short mode is square = length-coded (head_of (tile square)) (codes_of mode (tile square).tile) (codes-short mode (tile square).tile (tile-plain is square).may refl)

  texts-short : (mode : Mode) → IsSetting setting → (squares : List Cell) → length (flat_map (tile_text mode) (map tile squares)) ≤ length (map tile squares) * 196624
  texts-short mode is [] = omega arith
  texts-short mode is (square ∷ squares) =
      omega (arith, text-short mode is square, texts-short mode is squares, length-append (tile_text mode (tile square)) (flat_map (tile_text mode) (map tile squares)))

  -- that of a group
  pub payload-short : (mode : Mode) → IsSetting setting → (squares : List Cell) (index : ℕ) → length squares ≤ 256 → length (video_payload setting mode picture squares index) ≤ 51000000
  unfolding video_payload
  payload-short mode is squares index few =
      length-data (video_setting setting) mode picture.width picture.height (map tile squares) index (omega (arith, few, length-map squares tile)) (texts-short mode is squares)
