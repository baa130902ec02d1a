-- What is sent of a step that is painted in passes, and of one that isn't.
use Rattle.std.proofs.Common.{ℕ, ◌≡◌, true, false, ◌≤◌, Option, Some, None, refl, sym, ◌∙◌, arith}
use Rattle.std.specs.Prelude.{IfSome}
use Rattle.std.specs.FinMap.{get}
use Rattle.std.specs.List.{slice_get}
use Rattle.std.proofs.lemmas.Bool.Decides.{nat_tests}
use Rattle.gfx_base.specs.declared.geometry.Point.{Point}
use Rattle.gfx_base.specs.Cells.{has_pixels}
use Rattle.gfx_base.specs.Geometry.{IsRect}
use Rattle.gfx_prog_live.specs.Inside.{AreBy, IsBy}
use Rattle.gfx_prog_live.specs.Live.{Live, Passes}
use Rattle.gfx_prog_decode.specs.Records.{Records}
use Rattle.gfx_prog_encode.specs.declared.send.TileSend.{TileSend}
use Rattle.gfx_quant.specs.declared.setting.Setting.{Setting}
use Rattle.gfx_script.specs.Checks.{held_after}
use Rattle.gfx_script.specs.declared.picture.Picture.{Picture as Source}
use Rattle.gfx_script.specs.declared.step.Kind.{Kind}
use Rattle.gfx_script.specs.declared.step.Step.{Step}
use Rattle.gfx_script.specs.declared.step.Step.TheVariants.{Improve, Paint}
use Rattle.gfx_script.specs.Kinds.{as_kind}
use Rattle.gfx_script.specs.Pictures.{IsDrawn}
use Rattle.gfx_script.specs.Scripted.{Script}
use Rattle.gfx_script.specs.Writes.{place_of}
use Rattle.gfx_slot_plan.specs.Plan.{Plan}
use Rattle.gfx_state.specs.State.{State}
use Rattle.gfx_surface.specs.Picture.{Picture}
use Rattle.gfx_surface_map.specs.Surfaces.{Surfaces}
use Rattle.gfx_planner.specs.TileSteps.{goes_in_passes, sends_tiles, goes_as_video, is_video_paint}
use Rattle.gfx_planner.specs.Tiles.{HoldsTiles}
use Rattle.gfx_planner.specs.Server.{Server}
use Rattle.gfx_planner.specs.StepMessages.{made_as, paint_made}
use Rattle.gfx_planner.specs.CanSend.{IsPlaced, MayGoAsTiles}
use Rattle.gfx_planner.specs.Allowed.{IsAllowed}
use Rattle.gfx_script.specs.Ways.{goes_by}
use Rattle.gfx_script.specs.declared.way.Way.{Way}
use Rattle.gfx_script.specs.declared.way.Way.TheVariants.{Uncompressed, ByLayer, InPasses, Video}
use Rattle.gfx_planner.proofs.PaintSteps.{may_paint}
use Rattle.gfx_planner.proofs.Seen.{seen}

-- what a picture is made into that goes neither in passes nor as video doesn't depend on what is live
paint_apart : (script : Script) (state : State) (a b : Passes) (plan : Plan) (way : Option Way) (source : Option Source) (glyph : Option ℕ) (id : ℕ) (at : Point) → goes_in_passes way ≡ false → goes_as_video way ≡ false
    → paint_made script state a plan way source glyph id at ≡ paint_made script state b plan way source glyph id at
unfolding paint_made
paint_apart script state a b plan None source glyph id at apart still = refl
paint_apart script state a b plan (Some Uncompressed) source glyph id at apart still = refl
paint_apart script state a b plan (Some (ByLayer layer)) source glyph id at apart still = refl
paint_apart script state a b plan (Some InPasses) source glyph id at apart still = absurd cc
paint_apart script state a b plan (Some Video) source glyph id at apart still = absurd cc

-- nor the messages of a step that sends no tiles that may be raised, and isn't a paint as video
pub made_apart : (script : Script) (state : State) (a b : Passes) (plan : Plan) (kind : Option Kind) (step : Step) → sends_tiles script.thin kind step ≡ false → is_video_paint script.thin kind step ≡ false → made_as script state a plan kind step ≡ made_as script state b plan kind step
unfolding made_as
made_apart script state a b plan kind (Paint id number at named glyph) apart still = paint_apart script state a b plan (goes_by script.thin kind) (slice_get script.pictures number) glyph id at apart still
made_apart script state a b plan kind (Improve id) apart still = absurd cc
made_apart script state a b plan kind step apart still = refl

-- a picture has pixels wherever it lies
has_some : (picture : Source) (at : Point) → IsDrawn picture → has_pixels (place_of picture at) ≡ true
has_some picture at sides =
    let wide : 1 ≤ picture.width = sides.width_from in
    let high : 1 ≤ picture.height = sides.height_from in
    grind (arith, nat_tests)

-- the live tiles are of the setting of the script
pub live_by : (setting : Setting) (live : Live) (records : Records) (surfaces : Surfaces) → HoldsTiles setting live records surfaces → AreBy setting live
live_by setting live records surfaces holds key = by (get live key) refl (get surfaces key.surface) refl
  where
    by : (o : Option TileSend) → get live key ≡ o → (s : Option Picture) → get surfaces key.surface ≡ s → IfSome o (IsBy setting)
    by None there s surface = tt
    by (Some send) there None surface = absurd (let no : Some send ≡ None = sym there ∙ holds.others key surface in cc)
    by (Some send) there (Some picture) surface = ((holds.each key.surface picture surface).each key send refl there).1.0.coded

placed_there : (script : Script) (number : ℕ) (at : Point) (o : Option Source) (picture : Source) → o ≡ Some picture → IsRect (place_of picture at) → IsDrawn picture
    → IfSome o (λ source. IsRect (place_of source at) × (has_pixels (place_of source at) ≡ true))
placed_there script number at o picture is place sides = rw is (place, has_some picture at sides)

-- an allowed step has a place that fits its fields and has pixels
is_placed : (script : Script) (server : Server) (kind : Option Kind) (step : Step) → IsAllowed script server (as_kind kind step) → IsPlaced script step
unfolding IsPlaced held_after
is_placed script server kind (Paint id number at named glyph) allowed =
    let m = (may_paint script server allowed.held allowed.after id number at named glyph (seen script allowed.held server allowed.holds) allowed.numbers.1 allowed.numbers.2 allowed.checked).0 in
    placed_there script number at (slice_get script.pictures number) m.picture m.drawn m.place m.sides
is_placed script server kind step allowed = tt

-- and so may go as tiles
pub may_go : (script : Script) (server : Server) (kind : Option Kind) (step : Step) → IsAllowed script server (as_kind kind step) → MayGoAsTiles script server.passes step
may_go script server kind step allowed = record {
  accepted = allowed.holds.setting.accepted;
  by = live_by script.setting server.passes.live server.state.records server.state.shown.surfaces allowed.holds.tiles;
  placed = is_placed script server kind step allowed;
}
