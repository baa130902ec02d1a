-- What an improvement raises, and where it writes: this project's own promise.
use Rattle.std.specs.Prelude.{◌≡◌, ◌==◌, ℕ, ◌+◌, ◌<◌, nat_lt, false, List, ◌++◌, ◌∷◌, length, Some, None, option_map, if◌then◌else◌}
use Rattle.std.specs.FinMap.{get}
use Rattle.gfx_base.specs.Geometry.{holds}
use Rattle.gfx_prog_decode.specs.declared.key.Key.{Key}
use Rattle.gfx_prog_encode.specs.declared.send.TileSend.{TileSend}
use Rattle.gfx_script.specs.declared.step.Step.TheVariants.{Improve}
use Rattle.gfx_script.specs.Kinds.{Fits, KindedStep, as_kind}
use Rattle.gfx_script.specs.Script.{IsAccepted}
use Rattle.gfx_script.specs.Scripted.{Script}
use Rattle.gfx_surface.specs.Picture.{Picture, pixel_at}
use Rattle.gfx_planner.specs.Wanted.{Wanted}
use Rattle.gfx_planner.specs.Want.{want, wanted_after}

-- a tile at the next level; one at the last level stays there
abbrev pub at_next_level : TileSend → TileSend
at_next_level send = if nat_lt send.level (length send.tile.setting.levels) then record send { level = send.level + 1 } else send

-- no live tile of a surface that is below the last level paints this pixel
abbrev pub IsOfNoRaised : Wanted → ℕ → ℕ → ℕ → Type 0
IsOfNoRaised wanted id x y =
    (key : Key) (send : TileSend) → key.surface ≡ id → get wanted.passes.live key ≡ Some send → send.level < length send.tile.setting.levels → holds send.rect x y ≡ false

-- the live tiles of a surface are at their next levels, all others as they were; and a pixel is as it was unless a
-- tile that was raised paints it
pub record Raises (id : ℕ) (old new : Wanted) : Type 0 where
  pub live : (key : Key) → get new.passes.live key ≡ (if key.surface == id then option_map at_next_level (get old.passes.live key) else get old.passes.live key)
  pub others : (other : ℕ) → (other == id) ≡ false → get new.shown.surfaces other ≡ get old.shown.surfaces other
  pub pixels : (before after : Picture) (x y : ℕ) → get old.shown.surfaces id ≡ Some before → get new.shown.surfaces id ≡ Some after
      → x < before.width → y < before.height → IsOfNoRaised old id x y → pixel_at after x y ≡ pixel_at before x y

-- so with each improvement of an accepted script, whatever kinds its steps go as that they may go as
abbrev pub ImprovementsRaiseLiveTiles : Type 0
ImprovementsRaiseLiveTiles =
    (script : Script) (front rest : List KindedStep) (id : ℕ) → IsAccepted script → Fits (front ++ (as_kind None (Improve id) ∷ rest)) script.steps
    → Raises id (want script front) (wanted_after script (want script front) (as_kind None (Improve id)))
