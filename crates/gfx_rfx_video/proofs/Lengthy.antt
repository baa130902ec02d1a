-- How long messages are.
use Rattle.std.proofs.Common.{◌≡◌, ℕ, ◌+◌, ◌*◌, ◌<◌, ◌≤◌, List, ◌++◌, length, length-append, map, refl, sym, subst, arith, Result, Ok, Err}
use Rattle.std.proofs.lemmas.List.{length-map}
use Rattle.std.specs.List.{flat_map}
use Rattle.std.specs.Prelude.{IfOk}
use Rattle.gfx_layout.specs.Layout.{measured, spelled}
use Rattle.gfx_layout.proofs.FoundLaws.{length-spelled}
use Rattle.gfx_quant.specs.declared.setting.Setting.{Setting}
use Rattle.gfx_rlgr.specs.declared.mode.Mode.{Mode}
use Rattle.gfx_prog_block.specs.declared.area.Area.{Area}
use Rattle.gfx_prog_block.specs.declared.tile.TileHead.{TileHead}
use Rattle.gfx_prog_block.proofs.Frames.{length-framed}
use Rattle.gfx_rfx_video.specs.declared.coding.Codes.{Codes}
use Rattle.gfx_rfx_video.specs.declared.kinds.TheConstants.{TILE}
use Rattle.gfx_rfx_video.specs.declared.video_tile.VideoTile.{VideoTile}
use Rattle.gfx_rfx_video.specs.Layouts.{region, tile, tile_set}
use Rattle.gfx_rfx_video.specs.Message.{AreShort, area_of, begin_text, channels_text, coded_text, context_text, end_text, front_text, region_parts, region_text, set_parts, set_text, sync_text, tile_parts, tile_text, versions_text, video_data}

-- a tile
pub length-coded : (head : TileHead) (codes : Codes) → AreShort codes → length (coded_text head codes) ≤ 196624
unfolding coded_text
length-coded head codes short =
    let whole = length-framed TILE (measured tile (tile_parts head codes)) (spelled tile (tile_parts head codes)) (length-spelled tile (tile_parts head codes)) in
    omega (arith, whole, short.0, short.1, short.2)

pub coded-some : (head : TileHead) (codes : Codes) → 0 < length (coded_text head codes)
unfolding coded_text
coded-some head codes =
    let whole = length-framed TILE (measured tile (tile_parts head codes)) (spelled tile (tile_parts head codes)) (length-spelled tile (tile_parts head codes)) in
    omega (arith, whole)

-- blocks
length-front : (mode : Mode) (width height index : ℕ) → length (front_text mode width height index) ≡ 61
unfolding front_text sync_text versions_text channels_text context_text begin_text
length-front mode width height index = refl

pub length-region : (areas : List Area) → length (region_text areas) ≡ 15 + length areas * 8
unfolding region_text
length-region areas =
    let whole = length-framed 0xCCC6 (measured region (region_parts areas)) (spelled region (region_parts areas)) (length-spelled region (region_parts areas)) in
    omega (arith, whole)

pub length-set : (mode : Mode) (setting : Setting) (count : ℕ) (texts : List ℕ) → length (set_text mode setting count texts) ≡ 37 + length texts
unfolding set_text
length-set mode setting count texts =
    let whole = length-framed 0xCCC7 (measured tile_set (set_parts mode setting count texts)) (spelled tile_set (set_parts mode setting count texts)) (length-spelled tile_set (set_parts mode setting count texts)) in
    omega (arith, whole)

length-end : length end_text ≡ 8
unfolding end_text
length-end = refl

-- a message of at most 256 tiles
pub length-data : (setting : Setting) (mode : Mode) (width height : ℕ) (tiles : List VideoTile) (index : ℕ) → length tiles ≤ 256 → length (flat_map (tile_text mode) tiles) ≤ length tiles * 196624
    → length (video_data setting mode width height tiles index) ≤ 51000000
unfolding video_data
length-data setting mode width height tiles index few short =
    let areas : List Area = map (area_of width height) tiles in
    let texts : List ℕ = flat_map (tile_text mode) tiles in
    let set : List ℕ = set_text mode setting (length tiles) texts in
    let many : length areas ≡ length tiles = length-map tiles (area_of width height) in
    omega (
      arith,
      length-append (front_text mode width height index) (region_text areas ++ (set ++ end_text)),
      length-append (region_text areas) (set ++ end_text),
      length-append set end_text,
      length-front mode width height index,
      length-region areas,
      length-set mode setting (length tiles) texts,
      length-end,
      many,
      few,
      short,
    )

-- an answer with these data is short
pub short-data : {E : Type 0} (result : Result (List ℕ) E) (due : List ℕ) (P : Type 0) → IfOk result (λ bytes. bytes ≡ due) → IfOk result (λ _. P) → (P → length due ≤ 51000000) → IfOk result (λ bytes. length bytes ≤ 51000000)
short-data (Ok bytes) due P is some short = subst (λ l. length l ≤ 51000000) (sym is) (short some)
short-data (Err e) due P is some short = tt
