-- What the server's end keeps once it has sent: it does with its own state what its messages do with the client's
-- ([MS-RDPEGFX] 3.2.5; that the server's end keeps that state is this project's own rule).
use Rattle.std.specs.Prelude.{◌+◌, List, [], ◌∷◌, Option, Some, None, Result, Ok, Err}
use Rattle.gfx_base.specs.declared.refusal.Refusal.{Refusal}
use Rattle.gfx_prog_live.specs.Live.{Passes}
use Rattle.gfx_pdu.specs.declared.pdu.Pdu.{Pdu}
use Rattle.gfx_script.specs.Kinds.{KindedStep}
use Rattle.gfx_script.specs.Scripted.{Script}
use Rattle.gfx_state.specs.State.{State}
use Rattle.gfx_state.specs.Sending.{all_steps}
use Rattle.gfx_planner.specs.Bitmaps.{sides_kept}
use Rattle.gfx_planner.specs.Passes.{passes_as}
use Rattle.gfx_planner.specs.Server.{Server}
use Rattle.gfx_planner.specs.Made.{Made}
use Rattle.gfx_planner.specs.Wire.{made_by, frame_start, frame_end}

-- the state that messages give: as it was where one is refused, which no script comes to
unfoldable pub reached : State → Result State Refusal → State
reached old (Ok state) = state
reached old (Err r) = old

-- after these messages were sent
unfoldable pub after_messages : Server → List Pdu → Server
after_messages server pdus = record server { state = reached server.state (all_steps server.state pdus) }

-- after the messages of a step were sent, and the choice of slots has gone on; as it was where the step can't be put
abbrev pub after_made : Server → Option Made → Server
after_made server None = server
after_made server (Some found) = record (after_messages server found.pdus) { plan = found.plan }

-- which tiles are live after a step
abbrev pub passes_by : Script → Server → KindedStep → Passes
passes_by script server one =
    passes_as script (sides_kept server.plan server.state.cache.slots) server.state.shown.surfaces server.passes one.kind one.step

-- after a step was put inside a frame
unfoldable pub after_put : Script → Server → KindedStep → Server
after_put script server one = record (after_made server (made_by script server one)) { passes = passes_by script server one }

-- after a frame was opened
abbrev pub after_open : Server → Server
after_open server = record (after_messages server (frame_start server ∷ [])) { frames = server.frames + 1 }

-- after the open frame was ended
abbrev pub after_close : Server → Server
after_close server = after_messages server (frame_end server ∷ [])
