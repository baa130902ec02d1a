-- A paint by ClearCodec, as the planner's own functions take it: they write its stream and draw it at once. No public
-- contract names it. This project's own rule.
use Rattle.std.specs.Prelude.{Bool, ◌≡◌, ℕ, true, List, Option, Some, None}
use Rattle.std.specs.FinMap.{get}
use Rattle.std.specs.List.{slice_get}
use Rattle.gfx_base.specs.Format.{byte_of}
use Rattle.gfx_base.specs.Geometry.{IsRect, lies_in, width_of, height_of}
use Rattle.gfx_base.specs.declared.format.Format.{Format}
use Rattle.gfx_base.specs.declared.geometry.Point.{Point}
use Rattle.gfx_base.specs.declared.geometry.Rect.{Rect}
use Rattle.gfx_base.specs.declared.pixel.Rgb.{Rgb}
use Rattle.gfx_clear.specs.declared.layer.Layer.{Layer}
use Rattle.gfx_clear.specs.Sending.{MaySend as MaySendStream, sent as stream_sent}
use Rattle.gfx_pdu.specs.declared.pdu.Pdu.{Pdu}
use Rattle.gfx_pdu.specs.declared.pdu.Pdu.TheVariants.{WireToSurface1}
use Rattle.gfx_pdu.specs.Codecs.{CLEAR_CODEC}
use Rattle.gfx_planner.specs.declared.clear_paint.ClearPaint.{ClearPaint}
use Rattle.gfx_script.specs.declared.picture.Picture.{Picture as Source}
use Rattle.gfx_script.specs.declared.step.Kind.{Kind}
use Rattle.gfx_script.specs.declared.step.Step.{Step}
use Rattle.gfx_script.specs.declared.step.Step.TheVariants.{Paint}
use Rattle.gfx_script.specs.Scripted.{Script}
use Rattle.gfx_script.specs.Ways.{goes_by}
use Rattle.gfx_script.specs.Writes.{place_of}
use Rattle.gfx_script.specs.declared.way.Way.{Way}
use Rattle.gfx_script.specs.declared.way.Way.TheVariants as ways
use Rattle.gfx_state.specs.Sending.{IsCarried}
use Rattle.gfx_state.specs.State.{State}
use Rattle.gfx_surface.specs.Picture.{Picture}
use Rattle.gfx_planner.specs.Pixels.{colours_in}
use Rattle.gfx_planner.specs.PaintMessages.{paint_message}

-- a picture that goes by a layer of ClearCodec is such a paint; in each other way it is none
abbrev pub clear_paint_by : Option Way → ℕ → ℕ → Point → Option ℕ → Option ClearPaint
clear_paint_by None id picture at glyph = None
clear_paint_by (Some ways.Uncompressed) id picture at glyph = None
clear_paint_by (Some (ways.ByLayer layer)) id picture at glyph = Some record { id = id; picture = picture; at = at; layer = layer; glyph = glyph }
clear_paint_by (Some ways.InPasses) id picture at glyph = None
clear_paint_by (Some ways.Video) id picture at glyph = None

-- the same of a step that goes as a kind. The first argument: the client is thin
abbrev pub clear_paint_of : Bool → Option Kind → Step → Option ClearPaint
clear_paint_of thin kind (Paint id picture at named glyph) = clear_paint_by (goes_by thin kind) id picture at glyph
clear_paint_of thin kind step = None

-- the message that paints colours in a rectangle of a surface by a layer, in a stream that goes on from those before it
-- ([MS-RDPEGFX] 2.2.2.1 and 2.2.4.1)
abbrev pub clear_message : State → ℕ → Format → Rect → List Rgb → Layer → Option ℕ → Pdu
clear_message state id format rect pixels layer glyph =
    WireToSurface1 id CLEAR_CODEC (byte_of format) rect (stream_sent state.clear layer glyph (width_of rect) (height_of rect) pixels).bytes

-- such a paint can be sent: its surface and its picture are there, the picture lies on the surface and has sides and a
-- glyph that ClearCodec allows, and its message fits a channel message
pub record MayPaintClear (script : Script) (state : State) (paint : ClearPaint) : Type 0 where
  pub surface : Picture
  pub there : get state.shown.surfaces paint.id ≡ Some surface
  pub picture : Source
  pub drawn : slice_get script.pictures paint.picture ≡ Some picture
  pub inside : lies_in surface.width surface.height (place_of picture paint.at) ≡ true
  pub place : IsRect (place_of picture paint.at)
  pub may : MaySendStream picture.width picture.height (colours_in picture) paint.glyph
  pub carried : IsCarried (paint_message (Some paint.layer) state.clear paint.glyph surface picture paint.id paint.at)
