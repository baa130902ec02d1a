-- The one stream of a list of steps, where each frame of the script is one frame on the wire: what is sent for each step,
-- and what the server's end keeps after it. Which steps share a frame is this project's own rule.
use Rattle.std.specs.Prelude.{ℕ, List, [], ◌∷◌, ◌++◌, fold, Option, Some, None, is_some, Result, if◌then◌else◌}
use Rattle.gfx_base.specs.declared.answer.NoMemory.{NoMemory}
use Rattle.gfx_pdu.specs.declared.pdu.Pdu.{Pdu}
use Rattle.gfx_script.specs.declared.step.Step.{Step}
use Rattle.gfx_script.specs.declared.step.Step.TheVariants.{Frame}
use Rattle.gfx_script.specs.Kinds.{KindedStep}
use Rattle.gfx_script.specs.Scripted.{Script}
use Rattle.gfx_state.specs.Sending.{sent}
use Rattle.gfx_planner.specs.Server.{Server, at_start}
use Rattle.gfx_planner.specs.Wire.{messages, frame_start, frame_end}
use Rattle.gfx_planner.specs.After.{after_put, after_open, after_close}
use Rattle.gfx_planner.specs.Planned.{Planned, SendsOn}

-- before a step a frame is opened where none is: the message for it, where it is due
unfoldable pub opening : Server → List Pdu
opening server = if is_some server.state.frame then [] else frame_start server ∷ []

-- and the server's end after that
unfoldable pub opened : Server → Server
opened server = if is_some server.state.frame then server else after_open server

-- behind a step of the script that ends a frame, the open frame is ended: the message for it, where it is due
unfoldable pub closing : Server → Step → List Pdu
closing server Frame = frame_end server ∷ []
closing server step = []

-- and the server's end after that
unfoldable pub closed : Server → Step → Server
closed server Frame = after_close server
closed server step = server

-- what is sent for a step: its messages, behind the start of a frame and before the end of one where these are due
unfoldable pub sends : Script → Server → KindedStep → List Pdu
sends script server one =
    let ready = opened server in
    opening server ++ (messages script ready one ++ closing (after_put script ready one) one.step)

-- the server's end after it
unfoldable pub served : Script → Server → KindedStep → Server
served script server one = closed (after_put script (opened server) one) one.step

-- what a planner that isn't spent does when it puts a step in this way: it sends all of that, or it is spent and has sent a
-- front of it. The step isn't missing
abbrev pub PutsInFrame : Script → Result (Unit {0}) NoMemory → Server → Planned → List ℕ → List ℕ → Option KindedStep → Type 0
PutsInFrame script result server new before now None = ⊥
PutsInFrame script result server new before now (Some one) =
    SendsOn result new before now (sends script server one) (served script server one)

-- what is sent for steps, one after another
unfoldable pub stream : Script → Server → List KindedStep → List Pdu
stream script server [] = []
stream script server (one ∷ steps) = sends script server one ++ stream script (served script server one) steps

-- the server's end after them
abbrev pub served_all : Script → Server → List KindedStep → Server
served_all script server steps = fold (served script) server steps

-- the server's end after these steps of a script, which begins with nothing
abbrev pub end_after : Script → List KindedStep → Server
end_after script steps = served_all script (at_start script.small) steps

-- the bytes of their stream: each message in a channel message of its own ([MS-RDPEGFX] 2.2.5)
abbrev pub stream_of : Script → List KindedStep → List ℕ
stream_of script steps = sent (stream script (at_start script.small) steps)
