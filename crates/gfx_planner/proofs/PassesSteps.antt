-- The messages of steps that are painted in passes are accepted by the server's own state, and show what is wanted.
use Rattle.std.proofs.Common.{◌≡◌, ◌≤◌, ◌<◌, ◌^◌, ℕ, true, List, map, Option, Some, None, option_map, Ok, is_some, refl, sym, ap, ◌∙◌, subst, arith}
use Rattle.std.specs.FinMap.{contains_key, get}
use Rattle.std.specs.List.{AllByRecursion, slice_get}
use Rattle.std.specs.Prelude.{IfSome}
use Rattle.std.proofs.lemmas.Bool.Decides.{nat_tests}
use Rattle.std.proofs.lemmas.List.Elements.{recursion_from_All}
use Rattle.gfx_base.specs.Results.{check}
use Rattle.gfx_base.proofs.ResultLemmas.{and_then_ok, check_ok}
use Rattle.gfx_base.specs.declared.geometry.Point.{Point}
use Rattle.gfx_base.specs.Cells.{has_pixels}
use Rattle.gfx_prog_live.specs.Live.{Passes, improve_all, improved_sends, paint_all, painted_sends, passes_after}
use Rattle.gfx_prog_live.specs.Showing.{after_showing, after_tiles}
use Rattle.gfx_prog_law.specs.Taken.{AreTaken, HasRoom, WasSent}
use Rattle.gfx_prog_law.proofs.Groups.{number-fits}
use Rattle.gfx_prog_law.proofs.Improving.{improvements-taken}
use Rattle.gfx_prog_law.proofs.Painting.{paints-taken}
use Rattle.gfx_prog_law.proofs.Seen.{tiles-picture}
use Rattle.gfx_prog_decode.specs.Scene.{Scene, scene}
use Rattle.gfx_prog_encode.specs.declared.send.TileSend.{TileSend}
use Rattle.gfx_surface.specs.declared.TheConstants.{MOST_SIDE}
use Rattle.gfx_surface.specs.Picture.{Picture}
use Rattle.gfx_surface_map.specs.Shown.{with_picture}
use Rattle.gfx_script.specs.Checks.{Held, held_after, surface_mapped}
use Rattle.gfx_script.specs.Kinds.{GoesAs, KindedStep, as_kind}
use Rattle.gfx_script.specs.Pictures.{IsDrawn}
use Rattle.gfx_script.specs.Script.{IsStep}
use Rattle.gfx_script.specs.Scripted.{Script}
use Rattle.gfx_script.specs.Writes.{place_of, writes_by}
use Rattle.gfx_script.specs.declared.error.ScriptKind.TheVariants as fault
use Rattle.gfx_script.specs.declared.picture.Picture.{Picture as Source}
use Rattle.gfx_script.specs.declared.step.Kind.{Kind}
use Rattle.gfx_script.specs.declared.step.Step.{Step}
use Rattle.gfx_script.specs.declared.step.Step.TheVariants.{Paint, Improve}
use Rattle.gfx_state.specs.State.{State}
use Rattle.gfx_planner.specs.Bitmaps.{sides_kept}
use Rattle.gfx_planner.specs.TileSteps.{goes_in_passes, sends_tiles}
use Rattle.gfx_planner.specs.Passes.{improved_passes, painted_passes, passes_as}
use Rattle.gfx_planner.specs.Wanted.{Wanted}
use Rattle.gfx_planner.specs.SurfaceEffects.{drawing}
use Rattle.gfx_planner.specs.TileEffects.{with_improved, with_tiles}
use Rattle.gfx_planner.specs.Want.{wanted_as}
use Rattle.gfx_planner.specs.Server.{Server}
use Rattle.gfx_planner.specs.Made.{made}
use Rattle.gfx_planner.specs.TileMessages.{improving, painting_in_passes, passes_message}
use Rattle.gfx_planner.specs.StepMessages.{made_as}
use Rattle.gfx_planner.specs.Wire.{made_by}
use Rattle.gfx_planner.specs.After.{passes_by}
use Rattle.gfx_planner.specs.Agree.{Agree}
use Rattle.gfx_planner.specs.Holds.{Holds, HoldsSurfaces, sides_of}
use Rattle.gfx_script.specs.Ways.{goes_by}
use Rattle.gfx_planner.proofs.Ways.{live_in_passes, made_in_passes, painted_in_passes}
use Rattle.gfx_planner.proofs.Cells.{has_room}
use Rattle.gfx_planner.proofs.Held.{holds-drawn}
use Rattle.gfx_planner.proofs.PaintSteps.{MayPaint, may_paint}
use Rattle.gfx_planner.proofs.Seen.{AgreeSeen, agree-seen, seen}
use Rattle.gfx_planner.proofs.SurfaceSteps.{drawing_agrees, shows}
use Rattle.gfx_planner.proofs.TilesAccepted.{drawn_state, tiles_accepted}
use Rattle.gfx_planner.proofs.TilesCarried.{IsShort, improvements_short, messages_carried, paints_short}
use Rattle.gfx_planner.proofs.TilesKept.{tiles_kept, tiles_sides}
use Rattle.gfx_planner.proofs.Whole.{FineStep, passes-agree}

-- ---- what both have

-- the sides of a surface that is there are within their limit
narrow_surface : (held : Held) (server : Server) (id : ℕ) (surface : Picture) → HoldsSurfaces held.sides held.cells server.state.shown.surfaces → get server.state.shown.surfaces id ≡ Some surface
    → (surface.width ≤ MOST_SIDE) × (surface.height ≤ MOST_SIDE)
narrow_surface held server id surface holds there =
    subst (λ o. IfSome o (λ s. (s.width ≤ MOST_SIDE) × (s.height ≤ MOST_SIDE))) (holds.sides id ∙ ap (λ o. option_map sides_of o) there) (holds.narrow id)

room_there : (script : Script) (held : Held) (server : Server) (id : ℕ) (surface : Picture) → Holds script held server → get server.state.shown.surfaces id ≡ Some surface
    → HasRoom id surface.width surface.height server.state.records
room_there script held server id surface holds there =
    has_room server.state.records server.state.shown.surfaces id surface there (omega (arith, holds.surfaces.few, holds.surfaces.total)) holds.tiles.cells

-- a step that sends tiles of a surface
record Sends (script : Script) (server : Server) (one : KindedStep) (id : ℕ) : Type 0 where
  surface : Picture
  there : get server.state.shown.surfaces id ≡ Some surface
  fits : id < 2 ^ 16
  messages : List (List ℕ)
  sends : List TileSend
  taken : AreTaken script.setting id messages sends server.passes.live (scene server.state.records surface)
  short : AllByRecursion IsShort messages
  is : made_by script server one ≡ made (map (passes_message id surface.format) messages) server.plan
  passes : passes_by script server one ≡ passes_after id sends server.passes
  draws : (wanted : Wanted) → Agree server wanted → wanted_as script wanted one.kind one.step ≡ drawing wanted id (after_showing id sends)

sends_fine : (script : Script) (server : Server) (one : KindedStep) (held : Held) (id : ℕ) → Holds script held server → Sends script server one id → FineStep script server one held
sends_fine script server one held id holds of = record {
  into = record { pdus = map (passes_message id of.surface.format) of.messages; plan = server.plan };
  is = of.is;
  next = next;
  accepted = tiles_accepted id of.surface.format of.messages server.state of.surface new of.there of.taken.accepted;
  carried = messages_carried id of.surface.format of.messages of.fits of.short;
  holds = subst (λ p. Holds script held (record server { state = next; passes = p })) (sym of.passes) record {
    drawn = holds.drawn;
    same = holds.same;
    surfaces = holds-drawn held.sides held.cells server.state.shown.surfaces id of.surface new.picture holds.surfaces of.there
        (tiles_sides script.setting id of.messages of.sends server.passes.live server.state.records server.state.shown.surfaces of.surface of.there holds.tiles of.taken);
    bitmaps = holds.bitmaps;
    setting = holds.setting;
    tiles = tiles_kept script.setting id of.messages of.sends server.passes.live server.state.records server.state.shown.surfaces of.surface of.there holds.tiles of.taken;
    number = number-fits of.sends server.passes.next holds.number;
    rings = holds.rings;
  };
  frame = refl;
  agrees = λ wanted agree.
      let drawn : AgreeSeen (shows server (with_picture server.state.shown id (after_showing id of.sends of.surface))) (wanted_as script wanted one.kind one.step) =
      subst (AgreeSeen (shows server (with_picture server.state.shown id (after_showing id of.sends of.surface)))) (sym (of.draws wanted agree))
      (drawing_agrees server wanted id of.surface (after_showing id of.sends) of.there (agree-seen server wanted agree)) in
      record {
        shown = ap (with_picture server.state.shown id) (tiles-picture id of.sends (scene server.state.records of.surface)) ∙ drawn.shown;
        slots = drawn.slots;
        plan = drawn.plan;
        passes = passes-agree script server wanted one agree;
      };
}
  where
    new : Scene
    new = after_tiles id of.sends (scene server.state.records of.surface)

    next : State
    next = drawn_state server.state id new

-- ---- a paint

has_some : (picture : Source) (at : Point) → IsDrawn picture → has_pixels (place_of picture at) ≡ true
has_some picture at drawn = by drawn.width_from drawn.height_from
  where
    by : 1 ≤ picture.width → 1 ≤ picture.height → has_pixels (place_of picture at) ≡ true
    by across down = grind (arith, nat_tests)

painting_there : (script : Script) (passes : Passes) (server : Server) (surface : Option Picture) (source : Option Source) (a : Picture) (b : Source) (id : ℕ) (at : Point) → surface ≡ Some a → source ≡ Some b
    → painting_in_passes script passes surface source id at server.plan
    ≡ made (map (passes_message id a.format) (paint_all script.setting (painted_sends script passes.live id b (place_of b at)) passes.next)) server.plan
unfolding painting_in_passes
painting_there script passes server surface source a b id at there drawn = rw (there, drawn) refl

with_tiles_there : (script : Script) (wanted : Wanted) (source : Option Source) (b : Source) (id : ℕ) (at : Point) → source ≡ Some b
    → with_tiles script wanted source id at ≡ drawing wanted id (after_showing id (painted_sends script wanted.passes.live id b (place_of b at)))
unfolding with_tiles
with_tiles_there script wanted source b id at drawn = rw drawn refl

passes_there : (script : Script) (passes : Passes) (source : Option Source) (b : Source) (id : ℕ) (at : Point) → source ≡ Some b
    → painted_passes script passes id source at ≡ passes_after id (painted_sends script passes.live id b (place_of b at)) passes
unfolding painted_passes
passes_there script passes source b id at drawn = rw drawn refl

paint_sends : (script : Script) (server : Server) (kind : Option Kind) (held : Held) (id number : ℕ) (at : Point) (named : Option Kind) (glyph : Option ℕ) → goes_in_passes (goes_by script.thin kind) ≡ true → Holds script held server
    → id < 2 ^ 16 → MayPaint script server id number at glyph → Sends script server (as_kind kind (Paint id number at named glyph)) id
unfolding made_as wanted_as passes_as
paint_sends script server kind held id number at named glyph goes holds fits may =
    let narrow = narrow_surface held server id may.surface holds.surfaces may.there in
    let sends : List TileSend = painted_sends script server.passes.live id may.picture (place_of may.picture at) in
    let taken : AreTaken script.setting id (paint_all script.setting sends server.passes.next) sends server.passes.live (scene server.state.records may.surface) =
    paints-taken script server.passes.live id may.picture (place_of may.picture at) server.passes.next (scene server.state.records may.surface) holds.setting narrow.0 narrow.1
    may.place may.inside (has_some may.picture at may.sides) holds.number (holds.tiles.each id may.surface may.there) (room_there script held server id may.surface holds may.there) in
    record {
      surface = may.surface;
      there = may.there;
      fits = fits;
      messages = paint_all script.setting sends server.passes.next;
      sends = sends;
      taken = taken;
      short = paints_short script.setting may.surface.width may.surface.height holds.setting narrow.0 narrow.1 sends server.passes.next
          (recursion_from_All (WasSent script.setting may.surface.width may.surface.height) sends taken.sent);
      is = made_in_passes script server.state server.passes server.plan (goes_by script.thin kind) (slice_get script.pictures number) glyph id at goes
          ∙ painting_there script server.passes server (get server.state.shown.surfaces id) (slice_get script.pictures number) may.surface may.picture id at may.there may.drawn;
      passes = live_in_passes script server.passes (goes_by script.thin kind) id (slice_get script.pictures number) at (writes_by script (sides_kept server.plan server.state.cache.slots) (Paint id number at named glyph)) goes
          ∙ passes_there script server.passes (slice_get script.pictures number) may.picture id at may.drawn;
      draws = λ wanted agree.
          painted_in_passes script wanted (goes_by script.thin kind) (slice_get script.pictures number) id at goes
          ∙ with_tiles_there script wanted (slice_get script.pictures number) may.picture id at may.drawn
          ∙ ap (λ (p : Passes). drawing wanted id (after_showing id (painted_sends script p.live id may.picture (place_of may.picture at)))) (sym agree.passes);
    }

-- ---- an improvement

improving_there : (script : Script) (passes : Passes) (server : Server) (surface : Option Picture) (a : Picture) (id : ℕ) → surface ≡ Some a
    → improving script passes surface id server.plan ≡ made (map (passes_message id a.format) (improve_all script.setting (improved_sends passes.live id a.width a.height) passes.next)) server.plan
unfolding improving
improving_there script passes server surface a id there = rw there refl

with_improved_there : (wanted : Wanted) (surface : Option Picture) (a : Picture) (id : ℕ) → surface ≡ Some a
    → with_improved wanted surface id ≡ drawing wanted id (after_showing id (improved_sends wanted.passes.live id a.width a.height))
unfolding with_improved
with_improved_there wanted surface a id there = rw there refl

improved_there : (passes : Passes) (surface : Option Picture) (a : Picture) (id : ℕ) → surface ≡ Some a → improved_passes passes id surface ≡ passes_after id (improved_sends passes.live id a.width a.height) passes
unfolding improved_passes
improved_there passes surface a id there = rw there refl

improve_sends : (script : Script) (server : Server) (kind : Option Kind) (held : Held) (id : ℕ) (surface : Picture) → Holds script held server → id < 2 ^ 16 → get server.state.shown.surfaces id ≡ Some surface
    → Sends script server (as_kind kind (Improve id)) id
unfolding made_as wanted_as passes_as
improve_sends script server kind held id surface holds fits there =
    let narrow = narrow_surface held server id surface holds.surfaces there in
    let live = server.passes.live in
    let agree = holds.tiles.each id surface there in
    let sends : List TileSend = improved_sends live id surface.width surface.height in
    record {
      surface = surface;
      there = there;
      fits = fits;
      messages = improve_all script.setting sends server.passes.next;
      sends = sends;
      taken = improvements-taken script.setting live id server.passes.next (scene server.state.records surface) holds.setting narrow.0 narrow.1 holds.number agree;
      short = improvements_short script.setting surface.width surface.height holds.setting narrow.0 narrow.1 id server.passes.next live server.state.records agree;
      is = improving_there script server.passes server (get server.state.shown.surfaces id) surface id there;
      passes = improved_there server.passes (get server.state.shown.surfaces id) surface id there;
      draws = λ wanted agrees.
          with_improved_there wanted (get wanted.shown.surfaces id) surface id (ap (λ s. get s.surfaces id) (sym agrees.shown) ∙ there)
          ∙ ap (λ (p : Passes). drawing wanted id (after_showing id (improved_sends p.live id surface.width surface.height))) (sym agrees.passes);
    }

-- a surface whose sides are held
some_surface : (o : Option Picture) → is_some (option_map sides_of o) ≡ true → (surface : Picture) × (o ≡ Some surface)
some_surface None e = absurd cc
some_surface (Some surface) e = (surface, refl)

-- ---- both

in_passes : (script : Script) (server : Server) (kind : Option Kind) (held after : Held) (step : Step) → sends_tiles script.thin kind step ≡ true → Holds script held server → IsStep step
    → held_after held step ≡ Ok after → FineStep script server (as_kind kind step) after
unfolding held_after surface_mapped
in_passes script server kind held after (Paint id number at named glyph) passes holds numbers checked =
    let may = may_paint script server held after id number at named glyph (seen script held server holds) numbers.1 numbers.2 checked in
    subst (FineStep script server (as_kind kind (Paint id number at named glyph))) may.1
    (sends_fine script server (as_kind kind (Paint id number at named glyph)) held id holds (paint_sends script server kind held id number at named glyph passes holds numbers.0 may.0))
in_passes script server kind held after (Improve id) passes holds numbers checked =
    let first = and_then_ok (check fault.SurfaceAbsent (contains_key held.sides id)) _ after checked in
    let present : contains_key held.sides id ≡ true = check_ok fault.SurfaceAbsent (contains_key held.sides id) first.1 in
    let found = some_surface (get server.state.shown.surfaces id) (ap is_some (sym (holds.surfaces.sides id)) ∙ present) in
    let same : held ≡ after = (let last = first.2 in cc) in
    subst (FineStep script server (as_kind kind (Improve id))) same
    (sends_fine script server (as_kind kind (Improve id)) held id holds (improve_sends script server kind held id found.0 holds numbers found.1))
in_passes script server kind held after step passes holds numbers checked = absurd cc

pub passes_fine : (script : Script) (server : Server) (kind : Option Kind) (held after : Held) (step : Step) → sends_tiles script.thin kind step ≡ true → Holds script held server → IsStep step → GoesAs kind step
    → held_after held step ≡ Ok after → FineStep script server (as_kind kind step) after
passes_fine script server kind held after step passes holds numbers goes checked = in_passes script server kind held after step passes holds numbers checked
