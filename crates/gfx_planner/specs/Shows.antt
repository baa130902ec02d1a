-- What the stream of a script comes to, at a client that takes it: this project's own promise.
use Rattle.std.specs.Prelude.{◌≡◌, ℕ, List, ◌++◌}
use Rattle.gfx_script.specs.Kinds.{KindedStep, Fits}
use Rattle.gfx_script.specs.Script.{IsAccepted}
use Rattle.gfx_script.specs.Scripted.{Script}
use Rattle.gfx_state.specs.Run.{run_of}
use Rattle.gfx_state.specs.Same.{Same}
use Rattle.gfx_state.specs.Sending.{sent, standing}
use Rattle.gfx_state.specs.State.{State}
use Rattle.gfx_planner.specs.Agree.{Agree}
use Rattle.gfx_planner.specs.Stream.{stream, end_after, stream_of}
use Rattle.gfx_planner.specs.Tiles.{HoldsLive}
use Rattle.gfx_planner.specs.Want.{want}

-- a client, whom the large limits on bitmaps bind, takes the whole stream of these steps, and stands behind it between
-- two channel messages. Its state is the same as that of the server's end, and shows what the steps want; the server's
-- end shows and holds what they want; and both have the record of each live tile
pub record Shows (script : Script) (steps : List KindedStep) : Type 0 where
  pub applied : ℕ
  pub client : State
  pub run : run_of (stream_of script steps) ≡ standing client applied
  pub same : Same (end_after script steps).state client
  pub shown : client.shown ≡ (want script steps).shown
  pub agrees : Agree (end_after script steps) (want script steps)
  pub tiles : HoldsLive (want script steps).passes.live (end_after script steps).state.records
  pub client_tiles : HoldsLive (want script steps).passes.live client.records

-- so it is with each front of an accepted script, whatever kinds its steps go as that they may go as, up to a frame as up
-- to any other step; and the stream of the whole goes on from that of the front
abbrev pub ScriptsAreShown : Type 0
ScriptsAreShown =
    (script : Script) (front rest : List KindedStep) → IsAccepted script → Fits (front ++ rest) script.steps
    → Shows script front
    × (stream_of script (front ++ rest) ≡ stream_of script front ++ sent (stream script (end_after script front) rest))
