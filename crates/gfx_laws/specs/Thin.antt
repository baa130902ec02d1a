-- To a thin client nothing goes in passes: this project's own promise.
use Rattle.std.specs.Prelude.{◌≡◌, ℕ, true, List, [], None}
use Rattle.std.specs.FinMap.{get}
use Rattle.gfx_prog_live.specs.Live.{Live, improved_sends}
use Rattle.gfx_prog_decode.specs.declared.key.Key.{Key}
use Rattle.gfx_script.specs.Kinds.{KindedStep}
use Rattle.gfx_script.specs.Scripted.{Script}
use Rattle.gfx_planner.specs.Want.{want}

-- no tile is live
abbrev pub NoneIsLive : Live → Type 0
NoneIsLive live = (key : Key) → get live key ≡ None

-- whatever steps of a script for a thin client were put, and whatever kinds they went as, no tile is live, and an
-- improvement of any surface sends none
abbrev pub ThinClientsHaveNoLiveTiles : Type 0
ThinClientsHaveNoLiveTiles =
    (script : Script) (steps : List KindedStep) → script.thin ≡ true
    → NoneIsLive (want script steps).passes.live × ((id width height : ℕ) → improved_sends (want script steps).passes.live id width height ≡ [])
