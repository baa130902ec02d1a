-- How a live end improves what it shows while nothing else is to do. This project's own rule.
use Rattle.std.specs.Prelude.{◌≡◌, ℕ, ◌+◌, Bool, true, false, ◌&&◌, nat_le, List, [], ◌∷◌, ◌++◌, length, map, Result, Ok, Err}
use Rattle.gfx_base.specs.Results.{◌>>=◌}
use Rattle.gfx_prog_live.specs.Raising.{AreRaisable}
use Rattle.gfx_schedule.specs.ServerEnd.{is_none}
use Rattle.gfx_script.specs.declared.TheConstants.{MOST_STEPS}
use Rattle.gfx_script.specs.declared.error.ScriptKind.{ScriptKind}
use Rattle.gfx_script.specs.declared.step.Step.TheVariants.{Frame, Improve}
use Rattle.gfx_script.specs.Building.{each_in_turn}
use Rattle.gfx_script.specs.Drafts.{pushed, steps_so_far}
use Rattle.gfx_session.specs.declared.live_end.LiveEnd.{LiveEnd}
use Rattle.gfx_session.specs.declared.live_end.LiveFault.{LiveFault}
use Rattle.gfx_session.specs.declared.live_end.LiveFault.TheVariants.{Full, Memory, Wrong}
use Rattle.gfx_session.specs.Live.{frame_fed, wants_frame}
use Rattle.gfx_session.specs.Whole.{StandsWithMore}

-- nothing was pushed since the last frame, and it wants a frame
abbrev pub is_idle : LiveEnd → Bool
is_idle live = is_none live.draft.steps && wants_frame live

-- an improvement of each of these surfaces is pushed, and `frame`
unfoldable pub improvements_fed : LiveEnd → List ℕ → Result LiveEnd ScriptKind
improvements_fed live ids = do
  draft ← each_in_turn pushed live.draft (map Improve ids)
  frame_fed (record live { draft = draft })

-- the surfaces that have a tile below its last level are improved
pub record Improves (old new : LiveEnd) : Type 0 where
  pub ids : List ℕ
  pub raisable : AreRaisable old.end.planner.server.passes.live ids
  pub some : is_none ids ≡ false
  pub fed : improvements_fed old ids ≡ Ok new
  pub stands : StandsWithMore old.draft.pictures (map Improve ids ++ Frame ∷ []) old.end new.end

-- this holds of the surfaces that have a tile below its last level
abbrev pub ForRaisable : LiveEnd → (List ℕ → Type 0) → Type 0
ForRaisable live holds = (ids : List ℕ) × (AreRaisable live.end.planner.server.passes.live ids × holds ids)

-- what is answered: false where it isn't idle, or no tile is below its last level. An error leaves all as it was: Full says
-- that the script has no room for all of it
abbrev pub ImprovesIdle : Result Bool LiveFault → LiveEnd → LiveEnd → Type 0
ImprovesIdle (Ok true) old new = (is_idle old ≡ true) × Improves old new
ImprovesIdle (Ok false) old new = (is_idle old ≡ true → AreRaisable old.end.planner.server.passes.live []) × (new ≡ old)
ImprovesIdle (Err Full) old new = (is_idle old ≡ true) × ForRaisable old (λ ids. nat_le MOST_STEPS (steps_so_far old.draft + length ids) ≡ true) × (new ≡ old)
ImprovesIdle (Err (Wrong kind)) old new = (is_idle old ≡ true) × ForRaisable old (λ ids. improvements_fed old ids ≡ Err kind) × (new ≡ old)
ImprovesIdle (Err Memory) old new = new ≡ old
