-- That a client takes what a server paints in passes, whatever was live: this project's own promise.
use Rattle.std.specs.Prelude.{◌≡◌, ◌⊎◌, ℕ, ◌≤◌, ◌<◌, ◌^◌, true, List, length, Some, Ok}
use Rattle.std.specs.FinMap as finmap
use Rattle.std.specs.List.{All}
use Rattle.gfx_base.specs.declared.geometry.Rect.{Rect}
use Rattle.gfx_base.specs.Cells.{cut_to_cell, has_pixels}
use Rattle.gfx_base.specs.Geometry.{IsRect, lies_in}
use Rattle.gfx_quant.specs.declared.setting.Setting.{Setting}
use Rattle.gfx_quant.specs.Setting.{IsSetting}
use Rattle.gfx_script.specs.declared.picture.Picture.{Picture as Drawing}
use Rattle.gfx_script.specs.Scripted.{Script}
use Rattle.gfx_surface.specs.declared.TheConstants.{MOST_SIDE}
use Rattle.gfx_tile_make.specs.Levels.{MayBeSent, tile_at}
use Rattle.gfx_prog_decode.specs.declared.TheConstants.{MOST_RECORDS}
use Rattle.gfx_prog_decode.specs.declared.key.Key.{Key}
use Rattle.gfx_prog_decode.specs.declared.key.Place.{Place}
use Rattle.gfx_prog_decode.specs.Coding.{begins_in}
use Rattle.gfx_prog_decode.specs.Progressive.{after_message}
use Rattle.gfx_prog_decode.specs.Records.{Records}
use Rattle.gfx_prog_decode.specs.Scene.{Scene, in_turn}
use Rattle.gfx_prog_encode.specs.declared.TheConstants.{CONTEXT}
use Rattle.gfx_prog_encode.specs.declared.send.TileSend.{TileSend}
use Rattle.gfx_prog_live.specs.Cells.{cell_key}
use Rattle.gfx_prog_live.specs.Live.{Live, after_sends, improve_all, improved_sends, paint_all, painted_sends}
use Rattle.gfx_prog_live.specs.Showing.{after_tiles}

-- a tile of a cell that was sent: by this setting, at one of its levels, in a part of its cell on a surface of these sides
pub record WasSent (setting : Setting) (width height : ℕ) (send : TileSend) : Type 0 where
  pub may : MayBeSent send.tile
  pub coded : send.tile.setting ≡ setting
  pub level : send.level ≤ length setting.levels
  pub begins : begins_in width height send.cell.x send.cell.y ≡ true
  pub rect : IsRect send.rect
  pub inside : lies_in width height send.rect ≡ true
  pub in_cell : cut_to_cell send.rect send.cell ≡ send.rect
  pub some : has_pixels send.rect ≡ true

-- the live tiles of a surface of these sides were sent so, each to the cell that it stands under, and the records of
-- their cells are at their levels
pub record LiveIn (setting : Setting) (id width height : ℕ) (live : Live) (records : Records) : Type 0 where
  pub each : (key : Key) (send : TileSend) → key.surface ≡ id → finmap.get live key ≡ Some send
      → (key ≡ cell_key id send.cell) × (WasSent setting width height send × (finmap.get records key ≡ Some (tile_at send.tile send.level)))

-- a key is one of the records, or a cell of a surface of these sides
abbrev pub IsCell : ℕ → ℕ → ℕ → Key → Type 0
IsCell id width height key = (key.surface ≡ id) × (key.context ≡ CONTEXT) × (begins_in width height key.x key.y ≡ true)

-- however many cells of the surface get records, there are not too many
abbrev pub HasRoom : ℕ → ℕ → ℕ → Records → Type 0
HasRoom id width height records =
    (more : Records) → ((key : Key) → finmap.contains_key more key ≡ true → finmap.contains_key records key ≡ true ⊎ IsCell id width height key)
    → finmap.len more ≤ MOST_RECORDS

-- where progressive paints of this server go
abbrev pub place_of : ℕ → Place
place_of id = record { surface = id; context = CONTEXT }

-- sends are taken: all messages of them are accepted, one after another; they leave each tile's record at its level,
-- shown in its part of the cell; and what is live then agrees with the records
pub record AreTaken (setting : Setting) (id : ℕ) (messages : List (List ℕ)) (sends : List TileSend) (live : Live) (old : Scene) : Type 0 where
  pub accepted : in_turn (after_message (place_of id)) messages old ≡ Ok (after_tiles id sends old)
  pub sent : All (WasSent setting old.picture.width old.picture.height) sends
  pub agree : LiveIn setting id old.picture.width old.picture.height (after_sends id sends live) (after_tiles id sends old).records

-- so it is with a picture that is painted inside a surface
abbrev pub PaintsAreTaken : Type 0
PaintsAreTaken =
    (script : Script) (live : Live) (id : ℕ) (drawing : Drawing) (rect : Rect) (next : ℕ) (old : Scene) → IsSetting script.setting
    → old.picture.width ≤ MOST_SIDE → old.picture.height ≤ MOST_SIDE → IsRect rect → lies_in old.picture.width old.picture.height rect ≡ true → has_pixels rect ≡ true → next < 2 ^ 32
    → LiveIn script.setting id old.picture.width old.picture.height live old.records → HasRoom id old.picture.width old.picture.height old.records
    → AreTaken script.setting id (paint_all script.setting (painted_sends script live id drawing rect) next) (painted_sends script live id drawing rect) live old

-- and with an improvement of a surface
abbrev pub ImprovementsAreTaken : Type 0
ImprovementsAreTaken =
    (setting : Setting) (live : Live) (id next : ℕ) (old : Scene) → IsSetting setting
    → old.picture.width ≤ MOST_SIDE → old.picture.height ≤ MOST_SIDE → next < 2 ^ 32 → LiveIn setting id old.picture.width old.picture.height live old.records
    → AreTaken setting id (improve_all setting (improved_sends live id old.picture.width old.picture.height) next) (improved_sends live id old.picture.width old.picture.height) live old
