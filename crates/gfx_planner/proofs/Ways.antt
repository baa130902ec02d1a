-- What the ways of a picture have in common: what goes whole, by a layer of ClearCodec or by none, what goes in passes, and
-- what goes as video.
use Rattle.std.proofs.Common.{◌≡◌, ℕ, Bool, true, false, List, Option, Some, None, refl}
use Rattle.std.specs.FinMap.{get}
use Rattle.gfx_base.specs.declared.geometry.Point.{Point}
use Rattle.gfx_base.specs.declared.pixel.Pixel.{Pixel}
use Rattle.gfx_clear.specs.declared.layer.Layer.{Layer}
use Rattle.gfx_prog_live.specs.Live.{Passes}
use Rattle.gfx_script.specs.declared.picture.Picture.{Picture as Source}
use Rattle.gfx_script.specs.declared.way.Way.{Way}
use Rattle.gfx_script.specs.declared.way.Way.TheVariants.{Uncompressed, ByLayer, InPasses, Video}
use Rattle.gfx_script.specs.Scripted.{Script}
use Rattle.gfx_script.specs.Writes.{Area}
use Rattle.gfx_slot_plan.specs.Plan.{Plan}
use Rattle.gfx_state.specs.State.{State}
use Rattle.gfx_planner.specs.Pixels.{opaque_in, pixels_in}
use Rattle.gfx_planner.specs.TileSteps.{goes_as_video, goes_in_passes}
use Rattle.gfx_planner.specs.Passes.{counted_in, ended_by, live_after, painted_passes}
use Rattle.gfx_planner.specs.Wanted.{Wanted}
use Rattle.gfx_planner.specs.TileEffects.{with_tiles}
use Rattle.gfx_planner.specs.PaintEffects.{with_painting, with_pixels}
use Rattle.gfx_planner.specs.Made.{alone}
use Rattle.gfx_planner.specs.PaintMessages.{painting}
use Rattle.gfx_planner.specs.TileMessages.{painting_in_passes}
use Rattle.gfx_planner.specs.VideoMessages.{painting_as_video}
use Rattle.gfx_planner.specs.StepMessages.{paint_made}

-- the layer of what goes whole
abbrev pub layer_in : Way → Option Layer
layer_in Uncompressed = None
layer_in (ByLayer layer) = Some layer
layer_in InPasses = None
layer_in Video = None

-- it goes whole
abbrev pub is_whole : Way → Bool
is_whole Uncompressed = true
is_whole (ByLayer layer) = true
is_whole InPasses = false
is_whole Video = false

-- and the pixels that it shows
abbrev pub shown_by : Option Layer → Source → List Pixel
shown_by None picture = pixels_in picture
shown_by (Some layer) picture = opaque_in picture

-- whole ----------------------------------------------------------------------------------------------------

pub live_whole : (script : Script) (passes : Passes) (way : Option Way) (id : ℕ) (source : Option Source) (at : Point) (written : Option Area) → goes_in_passes way ≡ false → goes_as_video way ≡ false
    → live_after script passes way id source at written ≡ ended_by passes written
unfolding live_after
live_whole script passes None id source at written apart still = refl
live_whole script passes (Some Uncompressed) id source at written apart still = refl
live_whole script passes (Some (ByLayer layer)) id source at written apart still = refl
live_whole script passes (Some InPasses) id source at written apart still = absurd cc
live_whole script passes (Some Video) id source at written apart still = absurd cc

-- what doesn't go in passes ends tiles, and leaves the number of the next message of passes
counted_live : (source : Option Source) (passes : Passes) → ((counted_in source passes).live ≡ passes.live) × ((counted_in source passes).next ≡ passes.next)
unfolding counted_in
counted_live None passes = (refl, refl)
counted_live (Some picture) passes = (refl, refl)

pub live_left : (script : Script) (passes : Passes) (way : Option Way) (id : ℕ) (source : Option Source) (at : Point) (written : Option Area) → goes_in_passes way ≡ false
    → ((live_after script passes way id source at written).live ≡ (ended_by passes written).live) × ((live_after script passes way id source at written).next ≡ (ended_by passes written).next)
unfolding live_after
live_left script passes None id source at written apart = (refl, refl)
live_left script passes (Some Uncompressed) id source at written apart = (refl, refl)
live_left script passes (Some (ByLayer layer)) id source at written apart = (refl, refl)
live_left script passes (Some InPasses) id source at written apart = absurd cc
live_left script passes (Some Video) id source at written apart = counted_live source (ended_by passes written)

pub made_whole : (script : Script) (state : State) (passes : Passes) (plan : Plan) (way : Way) (source : Option Source) (glyph : Option ℕ) (id : ℕ) (at : Point) → is_whole way ≡ true
    → paint_made script state passes plan (Some way) source glyph id at ≡ alone (painting (layer_in way) state.clear (get state.shown.surfaces id) source glyph id at) plan
unfolding paint_made
made_whole script state passes plan Uncompressed source glyph id at whole = refl
made_whole script state passes plan (ByLayer layer) source glyph id at whole = refl
made_whole script state passes plan InPasses source glyph id at whole = absurd cc
made_whole script state passes plan Video source glyph id at whole = absurd cc

pub painted_whole : (script : Script) (wanted : Wanted) (way : Way) (source : Option Source) (id : ℕ) (at : Point) → is_whole way ≡ true
    → with_painting script wanted (Some way) source id at ≡ with_pixels wanted source (shown_by (layer_in way)) id at
unfolding with_painting
painted_whole script wanted Uncompressed source id at whole = refl
painted_whole script wanted (ByLayer layer) source id at whole = refl
painted_whole script wanted InPasses source id at whole = absurd cc
painted_whole script wanted Video source id at whole = absurd cc

-- in passes ------------------------------------------------------------------------------------------------

pub live_in_passes : (script : Script) (passes : Passes) (way : Option Way) (id : ℕ) (source : Option Source) (at : Point) (written : Option Area) → goes_in_passes way ≡ true
    → live_after script passes way id source at written ≡ painted_passes script passes id source at
unfolding live_after
live_in_passes script passes None id source at written goes = absurd cc
live_in_passes script passes (Some Uncompressed) id source at written goes = absurd cc
live_in_passes script passes (Some (ByLayer layer)) id source at written goes = absurd cc
live_in_passes script passes (Some InPasses) id source at written goes = refl
live_in_passes script passes (Some Video) id source at written goes = absurd cc

pub made_in_passes : (script : Script) (state : State) (passes : Passes) (plan : Plan) (way : Option Way) (source : Option Source) (glyph : Option ℕ) (id : ℕ) (at : Point) → goes_in_passes way ≡ true
    → paint_made script state passes plan way source glyph id at ≡ painting_in_passes script passes (get state.shown.surfaces id) source id at plan
unfolding paint_made
made_in_passes script state passes plan None source glyph id at goes = absurd cc
made_in_passes script state passes plan (Some Uncompressed) source glyph id at goes = absurd cc
made_in_passes script state passes plan (Some (ByLayer layer)) source glyph id at goes = absurd cc
made_in_passes script state passes plan (Some InPasses) source glyph id at goes = refl
made_in_passes script state passes plan (Some Video) source glyph id at goes = absurd cc

pub painted_in_passes : (script : Script) (wanted : Wanted) (way : Option Way) (source : Option Source) (id : ℕ) (at : Point) → goes_in_passes way ≡ true
    → with_painting script wanted way source id at ≡ with_tiles script wanted source id at
unfolding with_painting
painted_in_passes script wanted None source id at goes = absurd cc
painted_in_passes script wanted (Some Uncompressed) source id at goes = absurd cc
painted_in_passes script wanted (Some (ByLayer layer)) source id at goes = absurd cc
painted_in_passes script wanted (Some InPasses) source id at goes = refl
painted_in_passes script wanted (Some Video) source id at goes = absurd cc

-- as video -------------------------------------------------------------------------------------------------

pub live_as_video : (script : Script) (passes : Passes) (way : Option Way) (id : ℕ) (source : Option Source) (at : Point) (written : Option Area) → goes_as_video way ≡ true
    → live_after script passes way id source at written ≡ counted_in source (ended_by passes written)
unfolding live_after
live_as_video script passes None id source at written goes = absurd cc
live_as_video script passes (Some Uncompressed) id source at written goes = absurd cc
live_as_video script passes (Some (ByLayer layer)) id source at written goes = absurd cc
live_as_video script passes (Some InPasses) id source at written goes = absurd cc
live_as_video script passes (Some Video) id source at written goes = refl

pub made_as_video : (script : Script) (state : State) (passes : Passes) (plan : Plan) (way : Option Way) (source : Option Source) (glyph : Option ℕ) (id : ℕ) (at : Point) → goes_as_video way ≡ true
    → paint_made script state passes plan way source glyph id at ≡ painting_as_video script passes.videos (get state.shown.surfaces id) source id at plan
unfolding paint_made
made_as_video script state passes plan None source glyph id at goes = absurd cc
made_as_video script state passes plan (Some Uncompressed) source glyph id at goes = absurd cc
made_as_video script state passes plan (Some (ByLayer layer)) source glyph id at goes = absurd cc
made_as_video script state passes plan (Some InPasses) source glyph id at goes = absurd cc
made_as_video script state passes plan (Some Video) source glyph id at goes = refl
