-- A step changes no pixel outside of where it writes: this project's own promise.
use Rattle.std.specs.Prelude.{◌≡◌, ℕ, ◌<◌, false, Option, Some, None}
use Rattle.std.specs.FinMap.{get}
use Rattle.std.specs.List.{AllByRecursion}
use Rattle.gfx_base.specs.Geometry.{holds}
use Rattle.gfx_surface.specs.Picture.{Picture, pixel_at}
use Rattle.gfx_surface_map.specs.Surfaces.{Surfaces}
use Rattle.gfx_script.specs.Checks.{Held}
use Rattle.gfx_script.specs.Kinds.{KindedStep}
use Rattle.gfx_script.specs.Scripted.{Script}
use Rattle.gfx_script.specs.Writes.{Area, writes, writes_plainly}
use Rattle.gfx_planner.specs.Wanted.{Wanted}
use Rattle.gfx_planner.specs.Want.{wanted_after}
use Rattle.gfx_planner.specs.Server.{Server}
use Rattle.gfx_planner.specs.Agree.{Agree}
use Rattle.gfx_planner.specs.Holds.{Holds}

-- a pixel of a surface lies outside an area, which may be none
abbrev pub IsOutside : Option Area → ℕ → ℕ → ℕ → Type 0
IsOutside None id x y = Unit {0}
IsOutside (Some written) id x y = written.surface ≡ id → AllByRecursion (λ rect. holds rect x y ≡ false) written.rects

-- outside an area the pixels of surfaces are as they were, of those that are there before and after
pub record ChangesWithin (written : Option Area) (old new : Surfaces) : Type 0 where
  pub each : (id x y : ℕ) (before after : Picture) → get old id ≡ Some before → get new id ≡ Some after
      → x < after.width → y < after.height → IsOutside written id x y → pixel_at after x y ≡ pixel_at before x y

-- so with each step, where what its checks hold is in step with what is wanted; a plain write is one of
-- these
abbrev pub StepsWriteWithin : Type 0
StepsWriteWithin =
    (script : Script) (held : Held) (server : Server) (wanted : Wanted) (one : KindedStep) → Holds script held server → Agree server wanted
    → ChangesWithin (writes script held.stock one.step) wanted.shown.surfaces (wanted_after script wanted one).shown.surfaces
    × ((plain : Area) → writes_plainly script one.kind one.step ≡ Some plain → writes script held.stock one.step ≡ Some plain)
