-- The messages of a paint in passes, and those of an improvement, which is a later pass: each carries tiles of RemoteFX
-- Progressive ([MS-RDPEGFX] 2.2.2.2 and 2.2.4.2). Which tiles are sent, and how they are put in messages, is this
-- project's own rule (gfx_prog_live/specs/Live).
use Rattle.std.specs.Prelude.{ℕ, List, map, Option, Some, None}
use Rattle.gfx_base.specs.Format.{byte_of}
use Rattle.gfx_base.specs.declared.format.Format.{Format}
use Rattle.gfx_base.specs.declared.geometry.Point.{Point}
use Rattle.gfx_prog_live.specs.Live.{Passes, improve_all, improved_sends, paint_all, painted_sends}
use Rattle.gfx_pdu.specs.declared.pdu.Pdu.{Pdu}
use Rattle.gfx_pdu.specs.declared.pdu.Pdu.TheVariants.{WireToSurface2}
use Rattle.gfx_prog_encode.specs.declared.TheConstants.{CONTEXT}
use Rattle.gfx_script.specs.declared.picture.Picture.{Picture as Source}
use Rattle.gfx_script.specs.Scripted.{Script}
use Rattle.gfx_script.specs.Writes.{place_of}
use Rattle.gfx_slot_plan.specs.Plan.{Plan}
use Rattle.gfx_pdu.specs.Codecs.{PROGRESSIVE}
use Rattle.gfx_surface.specs.Picture.{Picture}
use Rattle.gfx_planner.specs.Made.{Made, made}

-- the message that carries such data to a surface, in its format ([MS-RDPEGFX] 2.2.2.2, RDPGFX_WIRE_TO_SURFACE_PDU_2)
abbrev pub passes_message : ℕ → Format → List ℕ → Pdu
passes_message id format payload = WireToSurface2 id PROGRESSIVE CONTEXT (byte_of format) payload

-- a picture is painted in passes: the tiles of the cells that it meets go at the first level. It can't be put where the
-- surface or the picture is missing
unfoldable pub painting_in_passes : Script → Passes → Option Picture → Option Source → ℕ → Point → Plan → Option Made
painting_in_passes script passes (Some surface) (Some picture) id at next =
    made (map (passes_message id surface.format) (paint_all script.setting (painted_sends script passes.live id picture (place_of picture at)) passes.next)) next
painting_in_passes script passes surface picture id at next = None

-- a surface is improved: each of its live tiles that isn't at the last level goes at the next one. It can't be put where
-- the surface is missing
unfoldable pub improving : Script → Passes → Option Picture → ℕ → Plan → Option Made
improving script passes None id next = None
improving script passes (Some surface) id next =
    made (map (passes_message id surface.format) (improve_all script.setting (improved_sends passes.live id surface.width surface.height) passes.next)) next
