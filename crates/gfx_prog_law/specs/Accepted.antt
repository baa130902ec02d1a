-- That a client accepts the data of progressive paints and shows what was sent: this project's own promise.
use Rattle.std.specs.Prelude.{◌≡◌, ℕ, ◌-◌, ◌≤◌, ◌<◌, ◌^◌, true, ◌||◌, is_some, nat_lt, List, [], ◌∷◌, length, map, Option, Some, Ok}
use Rattle.std.specs.FinMap as finmap
use Rattle.std.specs.List.{All}
use Rattle.gfx_base.specs.Geometry.{IsRect}
use Rattle.gfx_quant.specs.declared.quant.Component.{Component}
use Rattle.gfx_quant.specs.declared.setting.Setting.{Setting}
use Rattle.gfx_quant.specs.Setting.{IsSetting}
use Rattle.gfx_tile_state.specs.declared.state.TileState.{TileState}
use Rattle.gfx_tile_state.specs.Record.{fits_transform, part_of}
use Rattle.gfx_tile_make.specs.Levels.{MayBeSent, record_at, tile_at}
use Rattle.gfx_prog_block.specs.declared.area.Area.{Area}
use Rattle.gfx_prog_encode.specs.declared.TheConstants.{MOST_SENDS}
use Rattle.gfx_prog_encode.specs.declared.send.TileSend.{TileSend}
use Rattle.gfx_prog_encode.specs.Messages.{area_of, head_of, improve_data, paint_data}
use Rattle.gfx_prog_decode.specs.declared.TheConstants.{MOST_RECORDS}
use Rattle.gfx_prog_decode.specs.declared.key.Place.{Place}
use Rattle.gfx_prog_decode.specs.Coding.{begins_in}
use Rattle.gfx_prog_decode.specs.Passes.{kept_of, start_of}
use Rattle.gfx_prog_decode.specs.Progressive.{after_message, found, key_of, with_tile}
use Rattle.gfx_prog_decode.specs.Scene.{Scene}

-- ---- what is known of what is sent, as of all values of the code

-- a tile of this setting that may be sent, whose numbers fit their fields
pub record IsSend (setting : Setting) (send : TileSend) : Type 0 where
  pub may : MayBeSent send.tile
  pub coded : send.tile.setting ≡ setting
  pub x : send.cell.x < 2 ^ 16
  pub y : send.cell.y < 2 ^ 16
  pub rect : IsRect send.rect

-- ---- what is asked of the scene

-- the record of a tile's cell, if there is one
abbrev pub record_for : Place → Scene → TileSend → Option TileState
record_for place old send = found old (key_of place (head_of send))

-- the cell begins on the picture
abbrev pub Begins : Scene → TileSend → Type 0
Begins old send = begins_in old.picture.width old.picture.height send.cell.x send.cell.y ≡ true

-- a tile goes on what is kept of its cell, by its own transform; a plain one on nothing
pub record GoesOn (before : Option TileState) (send : TileSend) : Type 0 where
  pub transform : send.tile.difference ≡ true → fits_transform (start_of before).transform send.tile.setting.transform ≡ true
  pub kept : (component : Component) → kept_of send.tile.difference (part_of (start_of before) component) ≡ (record_at send.tile component 0).kept

-- a tile may be painted: so, and there is room for its record
pub record MayBePainted (place : Place) (old : Scene) (send : TileSend) : Type 0 where
  pub begins : Begins old send
  pub goes_on : GoesOn (record_for place old send) send
  pub room : (is_some (record_for place old send) || nat_lt (finmap.len old.records) MOST_RECORDS) ≡ true

-- a tile may be raised to its level: its record is at the level before
pub record MayBeImproved (place : Place) (old : Scene) (send : TileSend) : Type 0 where
  pub begins : Begins old send
  pub first : 1 ≤ send.level
  pub listed : send.level ≤ length send.tile.setting.levels
  pub before : record_for place old send ≡ Some (tile_at send.tile (send.level - 1))

-- ---- what becomes of it

-- a tile's record at a level stands, and its cell shows it in these areas
abbrev pub shown_at_level : Place → List Area → ℕ → TileSend → Scene → Scene
shown_at_level place areas level send old = with_tile old (key_of place (head_of send)) areas (tile_at send.tile level)

-- one tile after another, each at the first level
abbrev pub painted : Place → List Area → List TileSend → Scene → Scene
painted place areas [] old = old
painted place areas (send ∷ sends) old = painted place areas sends (shown_at_level place areas 0 send old)

-- or each at its level
abbrev pub raised : Place → List Area → List TileSend → Scene → Scene
raised place areas [] old = old
raised place areas (send ∷ sends) old = raised place areas sends (shown_at_level place areas send.level send old)

-- each tile may be painted on what those before it leave
abbrev pub MayAllBePainted : Place → List Area → List TileSend → Scene → Type 0
MayAllBePainted place areas [] old = Unit {0}
MayAllBePainted place areas (send ∷ sends) old = MayBePainted place old send × MayAllBePainted place areas sends (shown_at_level place areas 0 send old)

abbrev pub MayAllBeImproved : Place → List Area → List TileSend → Scene → Type 0
MayAllBeImproved place areas [] old = Unit {0}
MayAllBeImproved place areas (send ∷ sends) old = MayBeImproved place old send × MayAllBeImproved place areas sends (shown_at_level place areas send.level send old)

-- ---- the promises

abbrev pub PaintIsAccepted : Type 0
PaintIsAccepted =
    (place : Place) (setting : Setting) (sends : List TileSend) (index : ℕ) (old : Scene) → IsSetting setting → All (IsSend setting) sends → length sends ≤ MOST_SENDS → index < 2 ^ 32
    → MayAllBePainted place (map area_of sends) sends old → after_message place (paint_data setting sends index) old ≡ Ok (painted place (map area_of sends) sends old)

abbrev pub ImproveIsAccepted : Type 0
ImproveIsAccepted =
    (place : Place) (setting : Setting) (sends : List TileSend) (index : ℕ) (old : Scene) → IsSetting setting → All (IsSend setting) sends → length sends ≤ MOST_SENDS → index < 2 ^ 32
    → MayAllBeImproved place (map area_of sends) sends old → after_message place (improve_data setting sends index) old ≡ Ok (raised place (map area_of sends) sends old)
