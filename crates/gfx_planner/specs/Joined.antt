-- One frame on the wire that several steps share, which may be of several frames of the script: what is sent for it, and
-- what the server's end keeps after it. This project's own rule.
use Rattle.std.specs.Prelude.{List, [], ◌∷◌, ◌++◌, fold}
use Rattle.gfx_pdu.specs.declared.pdu.Pdu.{Pdu}
use Rattle.gfx_script.specs.Kinds.{KindedStep}
use Rattle.gfx_script.specs.Scripted.{Script}
use Rattle.gfx_planner.specs.Server.{Server}
use Rattle.gfx_planner.specs.Wire.{messages, frame_start, frame_end}
use Rattle.gfx_planner.specs.After.{after_put, after_open, after_close}

-- the messages of steps that are put inside a frame, one after another
unfoldable pub all_messages : Script → Server → List KindedStep → List Pdu
all_messages script server [] = []
all_messages script server (one ∷ steps) = messages script server one ++ all_messages script (after_put script server one) steps

-- and the server's end after them
unfoldable pub after_all : Script → Server → List KindedStep → Server
after_all script server steps = fold (after_put script) server steps

-- the messages of a frame: it is opened, the steps are put, and it is ended
unfoldable pub frame_of : Script → Server → List KindedStep → List Pdu
frame_of script server steps =
    let ready = after_open server in
    frame_start server ∷ (all_messages script ready steps ++ frame_end (after_all script ready steps) ∷ [])

-- and the server's end after it
unfoldable pub after_frame : Script → Server → List KindedStep → Server
after_frame script server steps = after_close (after_all script (after_open server) steps)
