-- What the server's end sends: the messages of a step that is put inside a frame, and those that open and end a frame
-- ([MS-RDPEGFX] 3.2.5; which messages a step is made into is this project's own rule).
use Rattle.std.specs.Prelude.{◌+◌, List, Option}
use Rattle.gfx_pdu.specs.declared.pdu.Pdu.{Pdu}
use Rattle.gfx_pdu.specs.declared.pdu.Pdu.TheVariants.{StartFrame, EndFrame}
use Rattle.gfx_script.specs.Kinds.{KindedStep}
use Rattle.gfx_script.specs.Scripted.{Script}
use Rattle.gfx_planner.specs.Server.{Server}
use Rattle.gfx_planner.specs.Made.{Made, pdus_of}
use Rattle.gfx_planner.specs.StepMessages.{made_as}

-- what a step is made into by the server's end as it stands
abbrev pub made_by : Script → Server → KindedStep → Option Made
made_by script server one = made_as script server.state server.passes server.plan one.kind one.step

-- the messages of a step
unfoldable pub messages : Script → Server → KindedStep → List Pdu
messages script server one = pdus_of (made_by script server one)

-- the message that opens the next frame ([MS-RDPEGFX] 2.2.2.11): frames are counted from 1, and the timestamp is 0
abbrev pub frame_start : Server → Pdu
frame_start server = StartFrame 0 (server.frames + 1)

-- the message that ends the open frame ([MS-RDPEGFX] 2.2.2.12)
abbrev pub frame_end : Server → Pdu
frame_end server = EndFrame server.frames
