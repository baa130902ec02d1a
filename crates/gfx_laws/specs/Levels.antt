-- At which level a paint in passes shows, until its last: this project's own promise.
use Rattle.std.specs.Prelude.{◌≡◌, ◌/◌, ◌%◌, ℕ, true, List, ◌∷◌, ◌++◌, length, min, Some}
use Rattle.std.specs.FinMap.{get}
use Rattle.gfx_base.specs.Cells.{cell}
use Rattle.gfx_prog_encode.specs.declared.send.TileSend.{TileSend}
use Rattle.gfx_prog_live.specs.Cells.{cell_key}
use Rattle.gfx_schedule.specs.Starts.{Start}
use Rattle.gfx_script.specs.Kinds.{KindedStep}
use Rattle.gfx_script.specs.Scripted.{Script}
use Rattle.gfx_script.specs.Ways.{goes_by}
use Rattle.gfx_tile_make.specs.Levels.{shown_at}
use Rattle.gfx_planner.specs.Wanted.{Wanted}
use Rattle.gfx_planner.specs.Want.{want_from, wanted_after}
use Rattle.gfx_laws.specs.Seen.{IsThere, MayGo}
use Rattle.gfx_laws.specs.Written.{AllSpare, HasPixel, ends_it, goes_in_passes, improvements, writes_in}

-- the cell of a pixel has a live tile, raised so often, up to its last level; and the surface shows what the tile is there
pub record IsAtLevel (script : Script) (wanted : Wanted) (improved id x y : ℕ) : Type 0 where
  pub send : TileSend
  pub live : get wanted.passes.live (cell_key id (cell (x / 64) (y / 64))) ≡ Some send
  pub level : send.level ≡ min improved (length script.setting.levels)
  pub shows : IsThere (λ format pixel. pixel ≡ shown_at send.tile send.level (y % 64) (x % 64)) wanted.shown.surfaces id x y

-- so with each pixel of a paint in passes in whose cell no later step of these writes
abbrev pub PaintsShowTheirLevel : Type 0
PaintsShowTheirLevel =
    (start : Start) (script : Script) (steps rest front later : List KindedStep) (one : KindedStep) (id x y : ℕ) → MayGo start script (steps ++ rest) → steps ≡ front ++ (one ∷ later)
    → HasPixel (writes_in script (want_from script start.wanted front) one.step) id x y → goes_in_passes (goes_by script.thin one.kind) ≡ true
    → AllSpare (ends_it true x y) id script (wanted_after script (want_from script start.wanted front) one) later
    → IsAtLevel script (want_from script start.wanted steps) (improvements id later) id x y
