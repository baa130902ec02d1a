-- The life of a live tile, step by step, in other words than those by which the server's end keeps its live tiles: this
-- project's own promise.
use Rattle.std.specs.Prelude.{◌≡◌, ◌+◌, ◌*◌, ◌==◌, ◌&&◌, ℕ, Bool, true, false, if◌then◌else◌, List, ◌∷◌, ◌++◌, length, Option, Some, None}
use Rattle.std.specs.FinMap.{get}
use Rattle.std.specs.List.{list_any, slice_get}
use Rattle.gfx_base.specs.declared.geometry.Point.{Point}
use Rattle.gfx_base.specs.declared.geometry.Rect.{Rect}
use Rattle.gfx_base.specs.declared.pixel.Pixel.{Pixel}
use Rattle.gfx_base.specs.Cells.{cell, meets}
use Rattle.gfx_base.specs.Geometry.{holds}
use Rattle.gfx_prog_decode.specs.declared.key.Key.{Key}
use Rattle.gfx_prog_encode.specs.declared.send.TileSend.{TileSend}
use Rattle.gfx_prog_live.specs.Cells.{cell_key}
use Rattle.gfx_quant.specs.declared.quant.Component.{Component}
use Rattle.gfx_schedule.specs.Starts.{Start}
use Rattle.gfx_script.specs.declared.picture.Picture.{Picture as Source}
use Rattle.gfx_script.specs.declared.step.Kind.{Kind}
use Rattle.gfx_script.specs.declared.step.Step.{Step}
use Rattle.gfx_script.specs.declared.step.Step.TheVariants.{Delete, Improve, Paint}
use Rattle.gfx_script.specs.Kinds.{KindedStep}
use Rattle.gfx_script.specs.Scripted.{Script}
use Rattle.gfx_script.specs.Ways.{goes_by}
use Rattle.gfx_script.specs.Writes.{Area}
use Rattle.gfx_tile_make.specs.Levels.{Fits}
use Rattle.gfx_tile_make.specs.Source.{SourceTile, difference_of, planes_of}
use Rattle.gfx_tile_state.specs.Passes.{blank}
use Rattle.gfx_planner.specs.Wanted.{Wanted}
use Rattle.gfx_planner.specs.Want.{want_from, wanted_after}
use Rattle.gfx_laws.specs.PassesShown.{AreNearest, GoesOn, IsTileOf}
use Rattle.gfx_laws.specs.Raised.{Raises}
use Rattle.gfx_laws.specs.Seen.{MayGo}
use Rattle.gfx_laws.specs.Written.{goes_in_passes, laid_at, writes_in}

-- ---- a paint in passes

-- the rectangle of a cell of 64 by 64 pixels
abbrev pub whole_cell : ℕ → ℕ → Rect
whole_cell column row = record { left = 64 * column; top = 64 * row; right = 64 * column + 64; bottom = 64 * row + 64 }

-- a tile may go on the one before it in its cell: the script has differences, that one had finished, and what is sent then
-- stays in the 16-bit range at each level
abbrev pub MayGoOn : Script → TileSend → SourceTile → Type 0
MayGoOn script old tile = (script.differences ≡ true) × ((old.level ≡ length old.tile.setting.levels) × Fits (difference_of tile old.tile))

-- it goes on that one exactly where it may, else on nothing
pub record GoesOnWhereItMay (script : Script) (before : Option TileSend) (tile : SourceTile) : Type 0 where
  pub on : (old : TileSend) → before ≡ Some old → MayGoOn script old tile → (tile.difference ≡ true) × GoesOn old tile
  pub alone : ((old : TileSend) → before ≡ Some old → MayGoOn script old tile → ⊥) → (tile.difference ≡ false) × ((component : Component) → (planes_of tile component).kept ≡ blank)

-- the live tile of a cell right after a paint in passes: at the first level, of the paint's pixels within the cell exactly,
-- with the quantised nearest pixels of the picture as its own values
pub record IsPaintedTile (script : Script) (before : Option TileSend) (source : Source) (at : Point) (column row : ℕ) (send : TileSend) : Type 0 where
  pub level : send.level ≡ 0
  pub place : send.cell ≡ cell column row
  pub part : (x y : ℕ) → holds send.rect x y ≡ (holds (laid_at source at) x y && holds (whole_cell column row) x y)
  pub pixels : List Pixel
  pub nearest : AreNearest source at column row pixels
  pub is : IsTileOf script.setting pixels send.tile
  pub goes_on : GoesOnWhereItMay script before send.tile

-- there is a live tile of which this holds
pub record IsLive (Is : TileSend → Type 0) (found : Option TileSend) : Type 0 where
  pub send : TileSend
  pub there : found ≡ Some send
  pub is : Is send

-- each cell that the paint meets has its tile, and each other has what it had
pub record Paints (script : Script) (id : ℕ) (source : Source) (at : Point) (old new : Wanted) : Type 0 where
  pub met : (column row : ℕ) → meets (laid_at source at) (cell column row) ≡ true
      → IsLive (IsPaintedTile script (get old.passes.live (cell_key id (cell column row))) source at column row) (get new.passes.live (cell_key id (cell column row)))
  pub others : (key : Key) → ((column row : ℕ) → key ≡ cell_key id (cell column row) → meets (laid_at source at) (cell column row) ≡ false) → get new.passes.live key ≡ get old.passes.live key

-- ---- other steps

-- an area has a rectangle in a tile's cell
abbrev pub is_written_in : Option Area → Key → Bool
is_written_in None key = false
is_written_in (Some written) key = key.surface == written.surface && list_any (λ rect. meets rect (cell key.x key.y)) written.rects

-- a step ends a tile: it writes in its cell, or deletes its surface
abbrev pub ends : Script → Wanted → Step → Key → Bool
ends script wanted (Delete id) key = key.surface == id
ends script wanted step key = is_written_in (writes_in script wanted step) key

-- each tile that it ends is gone, and each other is as it was
abbrev pub EndsTiles : Script → Step → Wanted → Wanted → Type 0
EndsTiles script step old new = (key : Key) → get new.passes.live key ≡ (if ends script old step key then None else get old.passes.live key)

-- ---- each step

-- a paint: in passes or not
abbrev pub GoesOnByPaint : Bool → Script → Step → ℕ → Option Source → Point → Wanted → Wanted → Type 0
GoesOnByPaint true script step id source at old new = (painted : Source) → source ≡ Some painted → Paints script id painted at old new
GoesOnByPaint false script step id source at old new = EndsTiles script step old new

-- what becomes of the live tiles with a step, which goes as a kind
abbrev pub TilesGoOn : Script → Option Kind → Step → Wanted → Wanted → Type 0
TilesGoOn script kind (Improve id) old new = Raises id old new
TilesGoOn script kind (Paint id number at named glyph) old new =
    GoesOnByPaint (goes_in_passes (goes_by script.thin kind)) script (Paint id number at named glyph) id (slice_get script.pictures number) at old new
TilesGoOn script kind step old new = EndsTiles script step old new

-- so with each step of a script
abbrev pub LiveTilesGoOn : Type 0
LiveTilesGoOn =
    (start : Start) (script : Script) (front rest : List KindedStep) (one : KindedStep) → MayGo start script (front ++ (one ∷ rest))
    → TilesGoOn script one.kind one.step (want_from script start.wanted front) (wanted_after script (want_from script start.wanted front) one)
