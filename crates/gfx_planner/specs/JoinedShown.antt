-- What a frame that several steps share comes to: a client takes it whole, and then shows what the steps want. This
-- project's own promise.
use Rattle.std.specs.Prelude.{◌≡◌, ◌+◌, ◌<◌, ◌^◌, false, List, map, fold, None, Ok}
use Rattle.std.specs.List.{AllByRecursion}
use Rattle.gfx_script.specs.Checks.{Held, held_through}
use Rattle.gfx_script.specs.Kinds.{KindedStep, HasKind}
use Rattle.gfx_script.specs.Script.{IsStep}
use Rattle.gfx_script.specs.Scripted.{Script}
use Rattle.gfx_state.specs.History.{ends_frame}
use Rattle.gfx_state.specs.Sending.{all_steps, IsCarried}
use Rattle.gfx_planner.specs.Wanted.{Wanted}
use Rattle.gfx_planner.specs.Want.{wanted_after}
use Rattle.gfx_planner.specs.Server.{Server}
use Rattle.gfx_planner.specs.After.{after_open}
use Rattle.gfx_planner.specs.Agree.{Agree}
use Rattle.gfx_planner.specs.Holds.{Holds}
use Rattle.gfx_planner.specs.Joined.{all_messages, after_all, frame_of, after_frame}

-- a frame of these steps is accepted by the server's own state and fits its channel messages; it ends with its last message
-- alone, and leaves no frame open. The server's end then holds and shows what the steps want
pub record JoinsFrame (script : Script) (server : Server) (steps : List KindedStep) (after : Held) (wanted : Wanted) : Type 0 where
  pub accepted : all_steps server.state (frame_of script server steps) ≡ Ok (after_frame script server steps).state
  pub carried : AllByRecursion IsCarried (frame_of script server steps)
  pub inside : AllByRecursion (λ pdu. ends_frame pdu ≡ false) (all_messages script (after_open server) steps)
  pub frame : (after_frame script server steps).state.frame ≡ None
  pub frames : (after_frame script server steps).frames ≡ server.frames + 1
  pub ends : (after_all script (after_open server) steps).frames ≡ server.frames + 1
  pub holds : Holds script after (after_frame script server steps)
  pub agrees : Agree (after_frame script server steps) wanted

-- so it is with every list of steps that pass their checks on what the server's end has
abbrev pub JoinedFramesAreShown : Type 0
JoinedFramesAreShown =
    (script : Script) (server : Server) (steps : List KindedStep) (held after : Held) (wanted : Wanted) → server.frames + 1 < 2 ^ 32 → server.state.frame ≡ None
    → Holds script held server → Agree server wanted → AllByRecursion IsStep (map (λ one. one.step) steps) → AllByRecursion HasKind steps
    → held_through held (map (λ one. one.step) steps) ≡ Ok after
    → JoinsFrame script server steps after (fold (wanted_after script) wanted steps)
