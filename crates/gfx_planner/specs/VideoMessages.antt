-- The messages of a picture that goes as RemoteFX video ([MS-RDPEGFX] 2.2.2.1, [MS-RDPRFX] 2.2.2). Which tiles each
-- carries is this project's own rule (gfx_video_paint/specs/Video).
use Rattle.std.specs.Prelude.{ℕ, List, map, Option, Some, None}
use Rattle.gfx_base.specs.Format.{byte_of}
use Rattle.gfx_base.specs.declared.format.Format.{Format}
use Rattle.gfx_base.specs.declared.geometry.Point.{Point}
use Rattle.gfx_base.specs.declared.geometry.Rect.{Rect}
use Rattle.gfx_pdu.specs.declared.pdu.Pdu.{Pdu}
use Rattle.gfx_pdu.specs.declared.pdu.Pdu.TheVariants.{WireToSurface1}
use Rattle.gfx_script.specs.declared.picture.Picture.{Picture as Source}
use Rattle.gfx_script.specs.Scripted.{Script}
use Rattle.gfx_script.specs.Writes.{place_of}
use Rattle.gfx_slot_plan.specs.Plan.{Plan}
use Rattle.gfx_rlgr.specs.declared.mode.Mode.{Mode}
use Rattle.gfx_rlgr.specs.declared.mode.Mode.TheVariants.{Rlgr1, Rlgr3}
use Rattle.gfx_script.specs.declared.step.Entropy.{Entropy}
use Rattle.gfx_script.specs.declared.step.Entropy.TheVariants.{One, Three}
use Rattle.gfx_pdu.specs.Codecs.{VIDEO}
use Rattle.gfx_surface.specs.Picture.{Picture}
use Rattle.gfx_video_paint.specs.Video.{video_payloads}
use Rattle.gfx_planner.specs.Made.{Made, made}

-- the entropy coder that a script names for its video ([MS-RDPRFX] 3.1.8.1.7)
abbrev pub mode_of : Entropy → Mode
mode_of One = Rlgr1
mode_of Three = Rlgr3

-- the message that carries such data to a rectangle of a surface, in its format
abbrev pub video_message : ℕ → Format → Rect → List ℕ → Pdu
video_message id format rect payload = WireToSurface1 id VIDEO (byte_of format) rect payload

-- a picture is painted as video, by messages of this number and the following ones. It can't be put where the surface or
-- the picture is missing
unfoldable pub painting_as_video : Script → ℕ → Option Picture → Option Source → ℕ → Point → Plan → Option Made
painting_as_video script number (Some surface) (Some picture) id at next =
    made (map (video_message id surface.format (place_of picture at)) (video_payloads script.setting (mode_of script.entropy) picture number)) next
painting_as_video script number surface picture id at next = None
