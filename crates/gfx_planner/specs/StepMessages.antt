-- Which messages each step is made into, kind by kind of step; their parts are in BitmapMessages, PaintMessages,
-- TileMessages and VideoMessages. The messages are those of [MS-RDPEGFX] 2.2.2; which a step is made into is this
-- project's own rule.
use Rattle.std.specs.Prelude.{ℕ, ◌-◌, [], ◌∷◌, Option, Some, None}
use Rattle.std.specs.List.{slice_get}
use Rattle.std.specs.FinMap.{get}
use Rattle.gfx_base.specs.Format.{byte_of}
use Rattle.gfx_base.specs.declared.geometry.Point.{Point}
use Rattle.gfx_base.specs.Geometry.{width_of, height_of}
use Rattle.gfx_prog_live.specs.Live.{Passes}
use Rattle.gfx_pdu.specs.declared.pdu.Pdu.TheVariants.{SolidFill, SurfaceToSurface, CreateSurface, DeleteSurface, ResetGraphics, MapSurfaceToOutput}
use Rattle.gfx_pdu.specs.declared.pdu.Monitor.{Monitor}
use Rattle.gfx_planner.specs.declared.messages.TheConstants.{PRIMARY}
use Rattle.gfx_script.specs.declared.picture.Picture.{Picture as Source}
use Rattle.gfx_script.specs.declared.step.Kind.{Kind}
use Rattle.gfx_script.specs.declared.step.Step.{Step}
use Rattle.gfx_script.specs.declared.step.Step.TheVariants.{Surface, Delete, Reset, Map, Fill, Copy, Keep, Show, Forget, Paint, Improve, Frame}
use Rattle.gfx_script.specs.Scripted.{Script}
use Rattle.gfx_script.specs.Ways.{goes_by}
use Rattle.gfx_script.specs.declared.way.Way.{Way}
use Rattle.gfx_script.specs.declared.way.Way.TheVariants as ways
use Rattle.gfx_slot_plan.specs.Plan.{Plan, keeps, slot_of, touched, forgotten}
use Rattle.gfx_state.specs.State.{State}
use Rattle.gfx_planner.specs.Made.{Made, alone, made}
use Rattle.gfx_planner.specs.BitmapMessages.{keeping, showing_slot, emptying}
use Rattle.gfx_planner.specs.PaintMessages.{painting}
use Rattle.gfx_planner.specs.TileMessages.{painting_in_passes, improving}
use Rattle.gfx_planner.specs.VideoMessages.{painting_as_video}

-- the one monitor of an output of these sides, which is the primary one ([MS-RDPEGFX] 2.2.2.14)
abbrev pub one_monitor : ℕ → ℕ → Monitor
one_monitor width height = record { left = 0; top = 0; right = width - 1; bottom = height - 1; flags = PRIMARY }

-- what a paint is made into, by the way in which its picture goes; one that goes in no way can't be put
unfoldable pub paint_made : Script → State → Passes → Plan → Option Way → Option Source → Option ℕ → ℕ → Point → Option Made
paint_made script state passes old None source glyph id at = None
paint_made script state passes old (Some ways.Uncompressed) source glyph id at =
    alone (painting None state.clear (get state.shown.surfaces id) source glyph id at) old
paint_made script state passes old (Some (ways.ByLayer layer)) source glyph id at =
    alone (painting (Some layer) state.clear (get state.shown.surfaces id) source glyph id at) old
paint_made script state passes old (Some ways.InPasses) source glyph id at =
    painting_in_passes script passes (get state.shown.surfaces id) source id at old
paint_made script state passes old (Some ways.Video) source glyph id at =
    painting_as_video script passes.videos (get state.shown.surfaces id) source id at old

-- what a step that goes as a kind is made into, inside a frame: in this state, with these live tiles and this choice of
-- slots
unfoldable pub made_as : Script → State → Passes → Plan → Option Kind → Step → Option Made
made_as script state passes old kind (Surface id width height format) = made (CreateSurface id width height (byte_of format) ∷ []) old
made_as script state passes old kind (Delete id) = made (DeleteSurface id ∷ []) old
made_as script state passes old kind (Reset width height) = made (ResetGraphics width height (one_monitor width height ∷ []) ∷ []) old
made_as script state passes old kind (Map id x y) = made (MapSurfaceToOutput id 0 x y ∷ []) old
made_as script state passes old kind (Fill id colour rects) = made (SolidFill id colour rects ∷ []) old
made_as script state passes old kind (Copy from to rect points) = made (SurfaceToSurface from to rect points ∷ []) old
made_as script state passes old kind (Keep id key rect) = keeping (keeps old key (width_of rect) (height_of rect)) id key rect
made_as script state passes old kind (Show key to points) = alone (showing_slot (slot_of key old.places) to points) (touched old key)
made_as script state passes old kind (Forget key) = alone (emptying (slot_of key old.places)) (forgotten old key)
made_as script state passes old kind (Paint id picture at named glyph) =
    paint_made script state passes old (goes_by script.thin kind) (slice_get script.pictures picture) glyph id at
made_as script state passes old kind (Improve id) = improving script passes (get state.shown.surfaces id) id old
made_as script state passes old kind Frame = made [] old
