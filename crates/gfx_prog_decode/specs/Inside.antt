-- How records are kept, and what the calls between them hand on.
use Rattle.std.specs.Prelude.{◌≡◌, ◌<◌, ℕ, ◌+◌, ◌-◌, ◌*◌, min, max, nat_le, Bool, ◌&&◌, IsTrue, if◌then◌else◌, IfSome, List, Option, Some, Result, Ok, Err, slice_get}
use Rattle.std.specs.FinMap as finmap
use Rattle.std.specs.FinMap.{from_entries}
use Rattle.std.specs.List.{list_any}
use Rattle.std.specs.Option.{ok_or}
use Rattle.gfx_base.specs.declared.answer.Cause.{Cause}
use Rattle.gfx_base.specs.declared.answer.Cause.TheVariants.{Memory, Refused}
use Rattle.gfx_base.specs.declared.geometry.Rect.{Rect}
use Rattle.gfx_base.specs.declared.pixel.Pixel.{Pixel}
use Rattle.gfx_base.specs.declared.refusal.Refusal.{Refusal}
use Rattle.gfx_base.specs.declared.refusal.Refusal.TheVariants.{NoFirstPass}
use Rattle.gfx_base.specs.Geometry.{holds}
use Rattle.gfx_base.specs.Outcome.{Says}
use Rattle.gfx_base.specs.Results.{◌>>=◌}
use Rattle.gfx_prog_block.specs.declared.area.Area.{Area}
use Rattle.gfx_prog_block.specs.declared.tile.UpgradePass.{UpgradePass}
use Rattle.gfx_quant.specs.declared.setting.Level.{Level}
use Rattle.gfx_quant.specs.Quant.{is_base}
use Rattle.gfx_surface.specs.Picture.{Picture, pixel_at, redrawn, shade}
use Rattle.gfx_tile_state.specs.declared.shape.PassShape.{PassShape}
use Rattle.gfx_tile_state.specs.declared.state.TileState.{TileState}
use Rattle.gfx_tile_state.specs.Record.{pixel_of}
use Rattle.gfx_prog_decode.specs.declared.key.Key.{Key}
use Rattle.gfx_prog_decode.specs.declared.records.Records.TheInside.{Inside}
use Rattle.gfx_prog_decode.specs.Coding.{Coding, Numbers}
use Rattle.gfx_prog_decode.specs.Passes.{improved, start_of}
use Rattle.gfx_prog_decode.specs.Records.{Records}
use Rattle.gfx_prog_decode.specs.Showing.{covered, has_pixel}
use Rattle.gfx_prog_decode.specs.Undo.{kept, nothing}

-- the map that the entries stand for
abbrev pub records_of : Inside → Records
records_of a = from_entries a.tiles.entries

-- the log of the bench that is kept, if there is one, is empty
abbrev pub IsSpent : Inside → Type 0
IsSpent a = IfSome a.bench (λ bench. kept bench.value.log ≡ nothing)

-- a key has a record, which is before its first pass where the key had none; all else is as it was
pub record Begins (key : Key) (old new : Records) : Type 0 where
  pub stands : finmap.get new key ≡ Some (start_of (finmap.get old key))
  pub same : (tile : TileState) → finmap.insert new key tile ≡ finmap.insert old key tile

-- the coding that a shape says
abbrev pub coding_seen : PassShape → Coding
coding_seen shape = record { transform = shape.transform; y = shape.y; cb = shape.cb; cr = shape.cr }

-- the numbers of a level
abbrev pub level_seen : Level → Numbers
level_seen level = record { y = level.y.values; cb = level.cb.values; cr = level.cr.values }

-- each component's numbers may be bases
pub record HaveBases (level : Level) : Type 0 where
  pub y : IsTrue (is_base level.y.values)
  pub cb : IsTrue (is_base level.cb.values)
  pub cr : IsTrue (is_base level.cr.values)

-- a pass of a key's record: whatever comes of it, all else is as it was
abbrev pub Passes : Result (Unit {0}) Refusal → Result TileState Refusal → Key → Records → Records → Type 0
Passes result due key old new = (next : TileState) × Says (λ _. next) result due × (new ≡ finmap.insert old key next)

-- a first pass of a key's record, or the record that takes its place: what comes of it
abbrev pub Starts : Result (Unit {0}) (Cause Refusal) → Result TileState Refusal → Key → Records → Records → Type 0
Starts (Ok done) due key old new = (next : TileState) × (due ≡ Ok next) × (new ≡ finmap.insert old key next)
Starts (Err Memory) due key old new = Unit {0}
Starts (Err (Refused refusal)) due key old new = due ≡ Err refusal

-- what an upgrade makes of a key's record, if it has one
abbrev pub improved_in : Coding → UpgradePass → Option TileState → Result TileState Refusal
improved_in coding pass found = do
  before ← ok_or found NoFirstPass
  improved coding pass before

-- these are the pixels of a record's tile, row by row
abbrev pub ArePixels : TileState → List Pixel → Type 0
ArePixels tile pixels = (y x : ℕ) → y < 64 → x < 64 → slice_get pixels (y * 64 + x) ≡ Some (pixel_of tile y x)

-- an area has all of a cell; no cell reaches past 65,535
abbrev pub has_all : Rect → Area → Bool
has_all cell area =
    nat_le area.x cell.left && nat_le cell.right (min (area.x + area.width) 65535)
    && nat_le area.y cell.top && nat_le cell.bottom (min (area.y + area.height) 65535)

-- one of these areas has all of a cell
abbrev pub is_in_one : Rect → List Area → Bool
is_in_one cell areas = list_any (has_all cell) areas

-- a picture with a canvas drawn where a test holds of a cell's pixels
abbrev pub canvas_shown : (ℕ → ℕ → Bool) → Picture → Rect → Picture → Picture
canvas_shown test picture cell canvas =
    redrawn picture (λ x y. if holds cell x y && test x y then shade picture.format (pixel_at canvas (x - cell.left) (y - cell.top)) else pixel_at picture x y)

-- where an area has it
abbrev pub area_shown : Picture → Rect → Area → Picture → Picture
area_shown picture cell area canvas = canvas_shown (λ x y. has_pixel x y area) picture cell canvas

-- where one of these areas has it
abbrev pub areas_shown : Picture → Rect → List Area → Picture → Picture
areas_shown picture cell areas canvas = canvas_shown (covered areas) picture cell canvas

-- the part of a cell that an area has; it may be upside down. No cell reaches past 65,535
abbrev pub overlap : Rect → Area → Rect
overlap cell area = record {
  left = max cell.left area.x;
  top = max cell.top area.y;
  right = min cell.right (min (area.x + area.width) 65535);
  bottom = min cell.bottom (min (area.y + area.height) 65535);
}
