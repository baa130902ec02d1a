-- The messages of paints are accepted by the server's own state, and show what is wanted.
use Rattle.std.proofs.Common.{ℕ, ◌≡◌, zero, suc, ◌+◌, ◌*◌, ◌≤◌, ◌<◌, ◌^◌, ◌&&◌, nat_le, Bool, true, false, List, [], ◌∷◌, length, map, Option, Some, None, option_map, Ok, refl, sym, ap, ◌∙◌, subst, arith}
use Rattle.std.specs.List.{AllByRecursion, slice_get}
use Rattle.std.specs.Prelude.{IfSome}
use Rattle.std.proofs.lemmas.Option.{slice_get-map}
use Rattle.std.specs.Option.{ok_or}
use Rattle.std.specs.FinMap.{get}
use Rattle.std.proofs.lemmas.Bool.Decides.{nat_tests}
use Rattle.gfx_base.specs.Format.{byte_of}
use Rattle.gfx_base.specs.Geometry.{IsPoint, IsRect, lies_in, moved, sized}
use Rattle.gfx_base.specs.Results.{check}
use Rattle.gfx_base.proofs.ResultLemmas.{and_then_ok, check_ok}
use Rattle.gfx_base.specs.declared.geometry.Point.{Point}
use Rattle.gfx_base.specs.declared.geometry.Rect.{Rect}
use Rattle.gfx_base.specs.declared.pixel.Pixel.{Pixel}
use Rattle.gfx_clear_store.specs.Rings.{AreRings}
use Rattle.gfx_clear.specs.declared.layer.Layer.{Layer}
use Rattle.gfx_clear.specs.State.{ClearState}
use Rattle.gfx_clear.specs.Sending.{MaySend as MaySendStream, MayStore}
use Rattle.gfx_clear.proofs.Keeping.{rings_sent, sent_few}
use Rattle.gfx_surface.specs.declared.TheConstants.{MOST_SIDE}
use Rattle.gfx_surface.specs.Picture.{Picture, overlaid}
use Rattle.gfx_surface.proofs.PictureLemmas.{overlaid-width, overlaid-height}
use Rattle.gfx_surface_map.specs.Shown.{with_picture}
use Rattle.gfx_surface_map.specs.Surfaces.{Surfaces}
use Rattle.gfx_script.specs.declared.TheConstants.{MOST_GLYPH}
use Rattle.gfx_script.specs.declared.held.Sides.{Sides}
use Rattle.gfx_script.specs.declared.picture.Picture.{Picture as Source}
use Rattle.gfx_script.specs.declared.step.Kind.{Kind}
use Rattle.gfx_script.specs.Pictures.{IsDrawn}
use Rattle.gfx_script.specs.Checks.{Held, is_glyph, picture_painted, sides_of_all, held_after}
use Rattle.gfx_script.specs.Kinds.{as_kind, GoesAs}
use Rattle.gfx_script.specs.Script.{IsStep}
use Rattle.gfx_script.specs.Scripted.{Script}
use Rattle.gfx_script.specs.Writes.{place_of}
use Rattle.gfx_script.specs.declared.error.ScriptKind.TheVariants as fault
use Rattle.gfx_script.specs.declared.step.Step.TheVariants.{Paint}
use Rattle.gfx_state.specs.State.{State}
use Rattle.gfx_state.specs.Step as message
use Rattle.gfx_pdu.specs.Codecs.{id_of}
use Rattle.gfx_state.specs.Sending.{IsCarried}
use Rattle.gfx_planner.specs.Pixels.{pixels_in, colours_in}
use Rattle.gfx_planner.specs.TileSteps.{goes_as_video, goes_in_passes}
use Rattle.gfx_planner.specs.Wanted.{Wanted}
use Rattle.gfx_planner.specs.SurfaceEffects.{drawing}
use Rattle.gfx_planner.specs.PaintEffects.{with_painting, with_pixels, with_video}
use Rattle.gfx_planner.specs.Want.{wanted_as}
use Rattle.gfx_planner.specs.Server.{Server}
use Rattle.gfx_planner.specs.Made.{alone, made}
use Rattle.gfx_planner.specs.PaintMessages.{codec_by, data_by, paint_message, painting}
use Rattle.gfx_planner.specs.VideoMessages.{mode_of, painting_as_video, video_message}
use Rattle.gfx_planner.specs.StepMessages.{made_as}
use Rattle.gfx_planner.specs.Holds.{sides_of, HoldsSurfaces}
use Rattle.gfx_script.specs.declared.way.Way.{Way}
use Rattle.gfx_script.specs.declared.way.Way.TheVariants.{Uncompressed, ByLayer, InPasses, Video}
use Rattle.gfx_script.specs.Ways.{goes_by, is_in_passes, is_stream, is_video, way_of}
use Rattle.gfx_video_paint.specs.Shown.{shown_as_video}
use Rattle.gfx_base.specs.Cells.{has_pixels}
use Rattle.gfx_slot_plan.specs.Plan.{Plan}
use Rattle.gfx_video_paint.specs.Inside.{HasSome}
use Rattle.gfx_video_paint.proofs.Cover.{placed-filled}
use Rattle.gfx_video_paint.proofs.Groups.{payloads-short, payloads-show}
use Rattle.gfx_rfx_video.specs.Video.{after_video, in_turn}
use Rattle.gfx_quant.specs.Setting.{IsSetting}
use Rattle.gfx_video_paint.specs.Video.{laid, video_payloads}
use Rattle.gfx_planner.proofs.Carried.{carried-wire}
use Rattle.gfx_planner.proofs.Effects.{all_steps-one}
use Rattle.gfx_planner.proofs.Held.{holds-drawn, sides-stay}
use Rattle.gfx_planner.proofs.VideoSteps.{video_sides, videos_accepted, videos_carried}
use Rattle.gfx_planner.proofs.Paints.{length-raw_bytes, length-pixels_in, length-colours_in, clear_by, painted_raw, painted_clear}
use Rattle.gfx_planner.proofs.SurfaceSteps.{Fine, going, shows, found_there, ok_or_some, drawing_agrees}
use Rattle.gfx_planner.proofs.Seen.{AgreeSeen as Agree, HoldsSeen as Holds}
use Rattle.gfx_planner.proofs.Ways.{is_whole, layer_in, shown_by, made_as_video, made_whole, painted_whole}

-- a picture whose sides are held
source_there : (pictures : List Source) (at : ℕ) (sides : Sides) → slice_get (sides_of_all pictures) at ≡ Some sides
    → (picture : Source) × (slice_get pictures at ≡ Some picture) × (record { width = picture.width; height = picture.height } ≡ sides)
source_there pictures at sides is = by (slice_get pictures at) (sym (slice_get-map source_sides pictures at) ∙ is) refl
  where
    source_sides : Source → Sides
    source_sides picture = record { width = picture.width; height = picture.height }

    by : (o : Option Source) → option_map source_sides (slice_get pictures at) ≡ Some sides → slice_get pictures at ≡ o
        → (picture : Source) × (slice_get pictures at ≡ Some picture) × (source_sides picture ≡ sides)
    by None found none = absurd (let no : None ≡ Some sides = sym (ap (option_map source_sides) none) ∙ found in cc)
    by (Some picture) found some = (picture, some, (let same : Some (source_sides picture) ≡ Some sides = sym (ap (option_map source_sides) some) ∙ found in cc))

drawn_at : (pictures : List Source) (at : ℕ) (picture : Source) → AllByRecursion IsDrawn pictures → slice_get pictures at ≡ Some picture → IsDrawn picture
drawn_at [] at picture all is = absurd cc
drawn_at (first ∷ others) zero picture all is = subst IsDrawn (let same : first ≡ picture = cc in same) all.0
drawn_at (first ∷ others) (suc at) picture all is = drawn_at others at picture all.1 is

-- what a script's checks of a paint say
pub record MayPaint (script : Script) (server : Server) (id number : ℕ) (at : Point) (glyph : Option ℕ) : Type 0 where
  pub surface : Picture
  pub there : get server.state.shown.surfaces id ≡ Some surface
  pub picture : Source
  pub drawn : slice_get script.pictures number ≡ Some picture
  pub inside : lies_in surface.width surface.height (place_of picture at) ≡ true
  pub place : IsRect (place_of picture at)
  pub sides : IsDrawn picture
  pub stored : MayStore (picture.width * picture.height) glyph

narrow_there : (held : Held) (surfaces : Surfaces) (id : ℕ) (sides : Sides) → HoldsSurfaces held.sides held.cells surfaces → get held.sides id ≡ Some sides → (sides.width < 2 ^ 16) × (sides.height < 2 ^ 16)
narrow_there held surfaces id sides holds there =
    let narrow = subst (λ o. IfSome o (λ s. (s.width ≤ MOST_SIDE) × (s.height ≤ MOST_SIDE))) there (holds.narrow id) in
    (omega (arith, narrow.0), omega (arith, narrow.1))

rect_fits : (width height : ℕ) (picture : Source) (at : Point) → width < 2 ^ 16 → height < 2 ^ 16 → IsPoint at → lies_in width height (place_of picture at) ≡ true → IsRect (place_of picture at)
rect_fits width height picture at wide high point inside =
    let right : at.x + picture.width ≤ width = grind (arith, nat_tests) in
    let bottom : at.y + picture.height ≤ height = grind (arith, nat_tests) in
    record { left = point.x; top = point.y; right = omega arith; bottom = omega arith }

second_holds : (a b : Bool) → (a && b) ≡ true → b ≡ true
second_holds true b e = e
second_holds false b e = absurd cc

le_of : (a b : ℕ) → nat_le a b ≡ true → a ≤ b
le_of a b e = grind (arith, nat_tests)

-- a glyph that a script's checks let pass can be stored
may_store : (named : Option Kind) (drawn : Sides) (glyph : Option ℕ) → IfSome glyph (λ index. index ≤ MOST_GLYPH) → is_glyph named drawn glyph ≡ true → MayStore (drawn.width * drawn.height) glyph
may_store named drawn None fits small = tt
may_store None drawn (Some index) fits small = absurd cc
may_store (Some kind) drawn (Some index) fits small = (omega (arith, fits), omega (arith, le_of _ _ (second_holds (is_stream (way_of false kind)) _ small)))

pub may_paint : (script : Script) (server : Server) (held after : Held) (id number : ℕ) (at : Point) (named : Option Kind) (glyph : Option ℕ) → Holds script held server → IsPoint at
    → IfSome glyph (λ index. index ≤ MOST_GLYPH) → picture_painted held id number at named glyph ≡ Ok after → MayPaint script server id number at glyph × (held ≡ after)
unfolding picture_painted
may_paint script server held after id number at named glyph holds point fits checked =
    let surfaces = server.state.shown.surfaces in
    let first = and_then_ok (ok_or (get held.sides id) fault.SurfaceAbsent) _ after checked in
    let sides : Sides = first.0 in
    let surface = found_there held surfaces id sides holds.surfaces first.1 in
    let second = and_then_ok (ok_or (slice_get held.pictures number) fault.Name) _ after first.2 in
    let found = ok_or_some (slice_get held.pictures number) fault.Name second.0 second.1 in
    let source = source_there script.pictures number second.0 (ap (λ ps. slice_get ps number) (sym holds.same) ∙ found) in
    let third = and_then_ok (check fault.Outside (lies_in sides.width sides.height (moved (sized second.0.width second.0.height) at))) _ after second.2 in
    let checked_inside = check_ok fault.Outside (lies_in sides.width sides.height (moved (sized second.0.width second.0.height) at)) third.1 in
    let inside_held : lies_in sides.width sides.height (place_of source.0 at) ≡ true = ap (λ (s : Sides). lies_in sides.width sides.height (moved (sized s.width s.height) at)) source.2 ∙ checked_inside in
    let narrow = narrow_there held surfaces id sides holds.surfaces (ok_or_some (get held.sides id) fault.SurfaceAbsent sides first.1) in
    let fourth = and_then_ok (check fault.Glyph (is_glyph named second.0 glyph)) _ after third.2 in
    let small = check_ok fault.Glyph (is_glyph named second.0 glyph) fourth.1 in (
      record {
        surface = surface.picture;
        there = surface.there;
        picture = source.0;
        drawn = source.1;
        inside = ap (λ (s : Sides). lies_in s.width s.height (place_of source.0 at)) surface.same ∙ inside_held;
        place = rect_fits sides.width sides.height source.0 at narrow.0 narrow.1 point inside_held;
        sides = drawn_at script.pictures number source.0 holds.drawn source.1;
        stored = subst (λ (s : Sides). MayStore (s.width * s.height) glyph) (sym source.2) (may_store named second.0 glyph fits small);
      },
      (let end = fourth.2 in cc),
    )

-- its picture can be sent as a stream
pub may_send_stream : (picture : Source) (glyph : Option ℕ) → IsDrawn picture → MayStore (picture.width * picture.height) glyph → MaySendStream picture.width picture.height (colours_in picture) glyph
may_send_stream picture glyph sides stored = record { across = sides.width_from; down = sides.height_from; few = omega (arith, sides.area); whole = length-colours_in picture; place = stored }

sides_overlaid : (picture : Picture) (rect : Rect) (pixels : List Pixel) → sides_of (overlaid picture rect pixels) ≡ sides_of picture
sides_overlaid picture rect pixels =
    let w = overlaid-width picture rect pixels in
    let h = overlaid-height picture rect pixels in
    λ i. record { width = w i; height = h i }

with_pixels_there : (wanted : Wanted) (o : Option Source) (picture : Source) (pixels : Source → List Pixel) (id : ℕ) (at : Point) → o ≡ Some picture
    → with_pixels wanted o pixels id at ≡ drawing wanted id (λ surface. overlaid surface (place_of picture at) (pixels picture))
unfolding with_pixels
with_pixels_there wanted o picture pixels id at there = rw there refl

-- the message of a picture
pub painting_there : (layer : Option Layer) (clear : ClearState) (surface : Option Picture) (source : Option Source) (glyph : Option ℕ) (a : Picture) (b : Source) (id : ℕ) (at : Point) → surface ≡ Some a → source ≡ Some b
    → painting layer clear surface source glyph id at ≡ Some (paint_message layer clear glyph a b id at)
unfolding painting
painting_there layer clear surface source glyph a b id at there is = rw (there, is) refl

-- by any layer, or uncompressed ------------------------------------------------------------------------

-- the server's state once a picture is painted
abbrev painted : Option Layer → State → ℕ → Picture → Source → Point → Option ℕ → State
painted layer state id surface picture at glyph = record state {
  shown = with_picture state.shown id (overlaid surface (place_of picture at) (shown_by layer picture));
  clear = clear_by layer state.clear glyph picture;
}

accepts : (layer : Option Layer) (script : Script) (server : Server) (id number : ℕ) (at : Point) (glyph : Option ℕ) (m : MayPaint script server id number at glyph) → AreRings server.state.clear.rings
    → message.step server.state (paint_message layer server.state.clear glyph m.surface m.picture id at) ≡ Ok (painted layer server.state id m.surface m.picture at glyph)
accepts None script server id number at glyph m are = painted_raw server.state id m.surface m.picture at m.there m.inside
accepts (Some layer) script server id number at glyph m are =
    painted_clear server.state id m.surface m.picture at layer glyph m.there m.inside are (may_send_stream m.picture glyph m.sides m.stored) m.sides.width_fits m.sides.height_fits

data_few : (layer : Option Layer) (clear : ClearState) (glyph : Option ℕ) (picture : Source) → IsDrawn picture → MayStore (picture.width * picture.height) glyph → length (data_by layer clear glyph picture) ≤ 42000000
data_few None clear glyph picture sides stored = omega (arith, length-raw_bytes (pixels_in picture), length-pixels_in picture, sides.area)
data_few (Some layer) clear glyph picture sides stored =
    omega (arith, sent_few clear layer glyph picture.width picture.height (colours_in picture) (may_send_stream picture glyph sides stored) sides.height_fits, length-colours_in picture, sides.area)

codec_few : (layer : Option Layer) → id_of (codec_by layer) < 2 ^ 16
codec_few None = omega arith
codec_few (Some layer) = omega arith

pub paint_carried : (layer : Option Layer) (script : Script) (server : Server) (id number : ℕ) (at : Point) (glyph : Option ℕ) (m : MayPaint script server id number at glyph) → id < 2 ^ 16
    → IsCarried (paint_message layer server.state.clear glyph m.surface m.picture id at)
paint_carried layer script server id number at glyph m fits =
    carried-wire id (id_of (codec_by layer)) (byte_of m.surface.format) (place_of m.picture at) (data_by layer server.state.clear glyph m.picture) fits (codec_few layer) m.place
    (omega (arith, data_few layer server.state.clear glyph m.picture m.sides m.stored))

rings_by : (layer : Option Layer) (clear : ClearState) (glyph : Option ℕ) (picture : Source) → AreRings clear.rings → AreRings (clear_by layer clear glyph picture).rings
rings_by None clear glyph picture are = are
rings_by (Some layer) clear glyph picture are = rings_sent clear layer glyph picture.width picture.height (colours_in picture) are

-- as video -----------------------------------------------------------------------------------------------

painting_video_there : (script : Script) (number : ℕ) (surface : Option Picture) (source : Option Source) (a : Picture) (b : Source) (id : ℕ) (at : Point) (plan : Plan) → surface ≡ Some a → source ≡ Some b
    → painting_as_video script number surface source id at plan
    ≡ made (map (video_message id a.format (place_of b at)) (video_payloads script.setting (mode_of script.entropy) b number)) plan
unfolding painting_as_video
painting_video_there script number surface source a b id at plan there drawn = rw (there, drawn) refl

with_video_there : (script : Script) (wanted : Wanted) (source : Option Source) (b : Source) (id : ℕ) (at : Point) → source ≡ Some b
    → with_video script wanted source id at ≡ drawing wanted id (shown_as_video script.setting b (place_of b at))
unfolding with_video
with_video_there script wanted source b id at drawn = rw drawn refl

pub painted_as_video : (script : Script) (wanted : Wanted) (way : Option Way) (source : Option Source) (id : ℕ) (at : Point) → goes_as_video way ≡ true
    → with_painting script wanted way source id at ≡ with_video script wanted source id at
unfolding with_painting
painted_as_video script wanted None source id at goes = absurd cc
painted_as_video script wanted (Some Uncompressed) source id at goes = absurd cc
painted_as_video script wanted (Some (ByLayer layer)) source id at goes = absurd cc
painted_as_video script wanted (Some InPasses) source id at goes = absurd cc
painted_as_video script wanted (Some Video) source id at goes = refl

-- a picture has pixels
some_laid : (picture : Source) → IsDrawn picture → HasSome picture
some_laid picture drawn = by drawn.width_from drawn.height_from
  where
    by : 1 ≤ picture.width → 1 ≤ picture.height → has_pixels (laid picture) ≡ true
    by across down = grind (arith, nat_tests)

-- the messages of a picture that is there show it
payloads_show : (script : Script) (picture : Source) (at : Point) (surface : Picture) → IsDrawn picture → (number : ℕ) → IsSetting script.setting
    → in_turn (after_video (place_of picture at)) (video_payloads script.setting (mode_of script.entropy) picture number) surface ≡ Ok (shown_as_video script.setting picture (place_of picture at) surface)
payloads_show script picture at surface drawn number setting =
    payloads-show script.setting (mode_of script.entropy) picture number (place_of picture at) surface setting drawn.width_fits drawn.height_fits (some_laid picture drawn) (placed-filled picture at)

video_fine : (script : Script) (server : Server) (kind : Option Kind) (held after : Held) (id number : ℕ) (at : Point) (named : Option Kind) (glyph : Option ℕ) → goes_as_video (goes_by script.thin kind) ≡ true → IsSetting script.setting → Holds script held server
    → IsStep (Paint id number at named glyph) → held_after held (Paint id number at named glyph) ≡ Ok after → Fine script server (as_kind kind (Paint id number at named glyph)) after
unfolding made_as wanted_as held_after
video_fine script server kind held after id number at named glyph goes setting holds numbers checked =
    let may = may_paint script server held after id number at named glyph holds numbers.1 numbers.2 checked in
    let m = may.0 in
    let rect = place_of m.picture at in
    let new = shown_as_video script.setting m.picture rect m.surface in
    let shown = with_picture server.state.shown id new in
    let payloads = video_payloads script.setting (mode_of script.entropy) m.picture server.passes.videos in
    let next : State = record server.state { shown = shown } in
    record {
      into = record { pdus = map (video_message id m.surface.format rect) payloads; plan = server.plan };
      is = made_as_video script server.state server.passes server.plan (goes_by script.thin kind) (slice_get script.pictures number) glyph id at goes
          ∙ painting_video_there script server.passes.videos (get server.state.shown.surfaces id) (slice_get script.pictures number) m.surface m.picture id at server.plan m.there m.drawn;
      next = next;
      accepted = videos_accepted id m.surface.format rect payloads server.state m.surface new m.there m.inside (payloads_show script m.picture at m.surface m.sides server.passes.videos setting);
      carried = videos_carried id m.surface.format rect payloads numbers.0 m.place (payloads-short script.setting (mode_of script.entropy) m.picture server.passes.videos setting);
      holds = subst (λ h. Holds script h (going server next server.plan)) may.1 record {
        drawn = holds.drawn;
        same = holds.same;
        surfaces = holds-drawn held.sides held.cells server.state.shown.surfaces id m.surface _ holds.surfaces m.there (video_sides script.setting m.picture rect m.surface);
        bitmaps = holds.bitmaps;
        rings = holds.rings;
      };
      frame = refl;
      agrees = λ wanted agree.
          let drawn = subst (Agree (shows server shown)) (sym (with_video_there script wanted (slice_get script.pictures number) m.picture id at m.drawn))
          (drawing_agrees server wanted id m.surface (shown_as_video script.setting m.picture rect) m.there agree) in
          subst (Agree (going server next server.plan)) (sym (painted_as_video script wanted (goes_by script.thin kind) (slice_get script.pictures number) id at goes))
          record { shown = drawn.shown; slots = drawn.slots; plan = drawn.plan };
      keeps = (sides-stay server.state.shown.surfaces id m.surface _ m.there (video_sides script.setting m.picture rect m.surface), refl);
    }

-- paints -----------------------------------------------------------------------------------------------

kind_fine : (script : Script) (server : Server) (kind : Kind) (held after : Held) (id number : ℕ) (at : Point) (named : Option Kind) (glyph : Option ℕ) → is_whole (way_of script.thin kind) ≡ true → Holds script held server → IsStep (Paint id number at named glyph)
    → held_after held (Paint id number at named glyph) ≡ Ok after → Fine script server (as_kind (Some kind) (Paint id number at named glyph)) after
unfolding made_as wanted_as held_after
kind_fine script server kind held after id number at named glyph whole holds numbers checked =
    let may = may_paint script server held after id number at named glyph holds numbers.1 numbers.2 checked in
    let m = may.0 in
    let way : Way = way_of script.thin kind in
    let layer = layer_in way in
    let rect = place_of m.picture at in
    let shown = with_picture server.state.shown id (overlaid m.surface rect (shown_by layer m.picture)) in
    let next = painted layer server.state id m.surface m.picture at glyph in
    record {
      into = record { pdus = paint_message layer server.state.clear glyph m.surface m.picture id at ∷ []; plan = server.plan };
      is = made_whole script server.state server.passes server.plan way (slice_get script.pictures number) glyph id at whole
          ∙ ap (λ o. alone o server.plan) (painting_there layer server.state.clear (get server.state.shown.surfaces id) (slice_get script.pictures number) glyph m.surface m.picture id at m.there m.drawn);
      next = next;
      accepted = all_steps-one server.state _ _ (accepts layer script server id number at glyph m holds.rings);
      carried = (paint_carried layer script server id number at glyph m numbers.0, tt);
      holds = subst (λ h. Holds script h (going server next server.plan)) may.1 record {
        drawn = holds.drawn;
        same = holds.same;
        surfaces = holds-drawn held.sides held.cells server.state.shown.surfaces id m.surface _ holds.surfaces m.there (sides_overlaid m.surface rect (shown_by layer m.picture));
        bitmaps = holds.bitmaps;
        rings = rings_by layer server.state.clear glyph m.picture holds.rings;
      };
      frame = refl;
      agrees = λ wanted agree.
          let drawn = subst (Agree (shows server shown)) (sym (with_pixels_there wanted (slice_get script.pictures number) m.picture (shown_by layer) id at m.drawn))
          (drawing_agrees server wanted id m.surface (λ z. overlaid z rect (shown_by layer m.picture)) m.there agree) in
          subst (Agree (going server next server.plan)) (sym (painted_whole script wanted way (slice_get script.pictures number) id at whole))
          record { shown = drawn.shown; slots = drawn.slots; plan = drawn.plan };
      keeps = (sides-stay server.state.shown.surfaces id m.surface _ m.there (sides_overlaid m.surface rect (shown_by layer m.picture)), refl);
    }

pub paint_fine : (script : Script) (server : Server) (kind : Option Kind) (held after : Held) (id number : ℕ) (at : Point) (named : Option Kind) (glyph : Option ℕ) → goes_in_passes (goes_by script.thin kind) ≡ false → IsSetting script.setting → Holds script held server → IsStep (Paint id number at named glyph)
    → GoesAs kind (Paint id number at named glyph) → held_after held (Paint id number at named glyph) ≡ Ok after → Fine script server (as_kind kind (Paint id number at named glyph)) after
paint_fine script server None held after id number at named glyph apart setting holds numbers goes checked = absurd (let none : false ≡ true = goes.0 in cc)
paint_fine script server (Some kind) held after id number at named glyph apart setting holds numbers goes checked = by (way_of script.thin kind) refl
  where
    by : (way : Way) → way_of script.thin kind ≡ way → Fine script server (as_kind (Some kind) (Paint id number at named glyph)) after
    by Uncompressed is = kind_fine script server kind held after id number at named glyph (ap is_whole is) holds numbers checked
    by (ByLayer layer) is = kind_fine script server kind held after id number at named glyph (ap is_whole is) holds numbers checked
    by InPasses is = absurd (let both : true ≡ false = sym (ap is_in_passes is) ∙ apart in cc)
    by Video is = video_fine script server (Some kind) held after id number at named glyph (ap is_video is) setting holds numbers checked
