-- What a script wants to be seen, step by step: by it a client's screen is measured. No message is named here. Its parts
-- are in SurfaceEffects, BitmapEffects, TileEffects and PaintEffects. [MS-RDPEGFX] 3.3.5 leaves to the server what it
-- draws; the steps are this project's own rule.
use Rattle.std.specs.Prelude.{List, fold, Option}
use Rattle.std.specs.List.{slice_get}
use Rattle.std.specs.FinMap.{get}
use Rattle.gfx_base.specs.Geometry.{width_of, height_of}
use Rattle.gfx_slot_plan.specs.Plan.{keeps, slot_of, touched, forgotten}
use Rattle.gfx_surface.specs.Picture.{blank}
use Rattle.gfx_surface_map.specs.Surfaces.{painted}
use Rattle.gfx_prog_live.specs.Live.{Passes}
use Rattle.gfx_script.specs.declared.step.Kind.{Kind}
use Rattle.gfx_script.specs.declared.step.Step.{Step}
use Rattle.gfx_script.specs.declared.step.Step.TheVariants.{Surface, Delete, Reset, Map, Fill, Copy, Keep, Show, Forget, Paint, Improve, Frame}
use Rattle.gfx_script.specs.Kinds.{KindedStep}
use Rattle.gfx_script.specs.Scripted.{Script}
use Rattle.gfx_script.specs.Ways.{goes_by}
use Rattle.gfx_planner.specs.Bitmaps.{bitmap_in, without_slot, sides_kept}
use Rattle.gfx_planner.specs.Passes.{passes_as}
use Rattle.gfx_planner.specs.Wanted.{Wanted, nothing_wanted}
use Rattle.gfx_planner.specs.SurfaceEffects.{with_surface, drawing, without_surface, with_map, with_copy}
use Rattle.gfx_planner.specs.BitmapEffects.{with_bitmap, with_stamps}
use Rattle.gfx_planner.specs.TileEffects.{with_improved}
use Rattle.gfx_planner.specs.PaintEffects.{with_painting}

-- what one more step, which goes as a kind, wants to be seen and held; which tiles are live is said by the next definition
unfoldable pub wanted_as : Script → Wanted → Option Kind → Step → Wanted
wanted_as script wanted kind (Surface id width height format) = with_surface wanted id (blank width height format)
wanted_as script wanted kind (Delete id) = record wanted { shown = without_surface wanted.shown id }
wanted_as script wanted kind (Reset width height) = record wanted { shown = record wanted.shown { output = record { width = width; height = height } } }
wanted_as script wanted kind (Map id x y) = record wanted { shown = with_map wanted.shown id record { x = x; y = y } }
wanted_as script wanted kind (Fill id colour rects) = drawing wanted id (λ picture. painted picture rects colour)
wanted_as script wanted kind (Copy from to rect points) = with_copy wanted (get wanted.shown.surfaces from) to rect points
wanted_as script wanted kind (Keep id key rect) =
    with_bitmap wanted (get wanted.shown.surfaces id) (keeps wanted.plan key (width_of rect) (height_of rect)) key rect
wanted_as script wanted kind (Show key to points) = record
    (with_stamps wanted (bitmap_in wanted.slots (slot_of key wanted.plan.places)) to points)
    { plan = touched wanted.plan key }
wanted_as script wanted kind (Forget key) = record wanted {
  plan = forgotten wanted.plan key;
  slots = without_slot wanted.slots (slot_of key wanted.plan.places);
}
wanted_as script wanted kind (Paint id picture at named glyph) =
    with_painting script wanted (goes_by script.thin kind) (slice_get script.pictures picture) id at
wanted_as script wanted kind (Improve id) = with_improved wanted (get wanted.shown.surfaces id) id
wanted_as script wanted kind Frame = wanted

-- and which tiles are live after it
abbrev pub passes_wanted : Script → Wanted → Option Kind → Step → Passes
passes_wanted script wanted kind step = passes_as script (sides_kept wanted.plan wanted.slots) wanted.shown.surfaces wanted.passes kind step

-- after one more step: both
abbrev pub wanted_after : Script → Wanted → KindedStep → Wanted
wanted_after script wanted one = record (wanted_as script wanted one.kind one.step) { passes = passes_wanted script wanted one.kind one.step }

-- after these steps, one after another, where so much was wanted before them
abbrev pub want_from : Script → Wanted → List KindedStep → Wanted
want_from script start steps = fold (wanted_after script) start steps

-- after these steps of a script that starts with nothing
abbrev pub want : Script → List KindedStep → Wanted
want script steps = want_from script (nothing_wanted script.small) steps
