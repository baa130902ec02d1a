-- Choosers that are changed between the turns of a session: this project's own promise.
use Rattle.std.specs.Prelude.{◌≡◌, false, List, map, take, drop}
use Rattle.gfx_chooser.specs.Choosing.{Chooser}
use Rattle.gfx_schedule.specs.Starts.{MayBegin, Start}
use Rattle.gfx_schedule.specs.World.{World, world_from}
use Rattle.gfx_script.specs.Kinds.{KindedStep}
use Rattle.gfx_script.specs.Scripted.{Script}
use Rattle.gfx_script.specs.declared.turn.Turn.{Turn}
use Rattle.gfx_session.specs.Session.{IsSession, StandsBy, script_of}
use Rattle.gfx_session.specs.declared.session.Session.{Session}

-- the same world, but for how the steps go that aren't queued yet
abbrev pub but_for : List KindedStep → World → World
but_for left w = record w { server = record w.server { left = left } }

-- how the steps go that aren't queued yet isn't seen by anything else, whatever the session starts from
abbrev pub LaterKindsAreNotSeen : Type 0
LaterKindsAreNotSeen =
    (start : Start) (script : Script) (kinded other : List KindedStep) (turns : List Turn) → map (λ (one : KindedStep). one.step) other ≡ map (λ (one : KindedStep). one.step) kinded
    → take (world_from start script kinded turns).server.last other ≡ take (world_from start script kinded turns).server.last kinded
    → world_from start script other turns ≡ but_for (drop (world_from start script kinded turns).server.last other) (world_from start script kinded turns)

-- a session is one of the schedule's in which the steps that aren't queued yet go as these choosers choose
pub record GoesOnBy (session : Session) (choosers : List Chooser) : Type 0 where
  pub origin : Start
  pub kinded : List KindedStep
  pub begins : MayBegin origin (script_of session) kinded
  pub turns : List Turn
  pub stands : StandsBy session choosers (script_of session) (world_from origin (script_of session) kinded turns)

-- so it is with a session that isn't spent, whatever choosers are brought to it: to each of its turns others may be
abbrev pub AnyChoosersMayBeBrought : Type 0
AnyChoosersMayBeBrought = (session : Session) (choosers : List Chooser) → IsSession session → session.spent ≡ false → GoesOnBy session choosers
