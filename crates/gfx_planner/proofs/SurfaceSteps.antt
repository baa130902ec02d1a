-- The messages of frames, and of the steps that draw on surfaces, are accepted by the server's own state,
-- and show what is wanted.
use Rattle.std.proofs.Common.{ℕ, ◌≡◌, ◌+◌, ◌-◌, ◌%◌, ◌≤◌, ◌<◌, ◌^◌, ◌&&◌, nat_lt, nat_le, Bool, true, false, not, List, [], ◌∷◌, Option, Some, None, option_map, is_some, Ok, refl, sym, ap, ◌∙◌, subst, arith, eq-eqb}
use Rattle.std.specs.List.{AllByRecursion, list_all}
use Rattle.std.specs.Ordering.{nat_cmp}
use Rattle.std.specs.Option.{ok_or}
use Rattle.std.specs.FinMap.{FinMap, get, insert, remove, contains_key}
use Rattle.std.proofs.lemmas.Bool.Decides.{nat_tests}
use Rattle.gfx_base.specs.Format.{byte_of, format_of}
use Rattle.gfx_base.specs.Geometry.{lies_in, fit_all}
use Rattle.gfx_base.specs.Results.{and_then, check}
use Rattle.gfx_base.proofs.ResultLemmas.{and_then_ok, and_then_at, check_ok}
use Rattle.gfx_base.specs.declared.format.Format.{Format}
use Rattle.gfx_base.specs.declared.geometry.Point.{Point}
use Rattle.gfx_base.specs.declared.geometry.Rect.{Rect}
use Rattle.gfx_base.specs.declared.pixel.Pixel.{Pixel}
use Rattle.gfx_base.specs.declared.refusal.Refusal.TheVariants as refusal
use Rattle.gfx_pdu.specs.declared.pdu.Pdu.{Pdu}
use Rattle.gfx_pdu.specs.declared.pdu.Pdu.TheVariants.{SolidFill, SurfaceToSurface, CreateSurface, DeleteSurface, StartFrame, EndFrame, ResetGraphics, MapSurfaceToOutput}
use Rattle.gfx_pdu.specs.declared.pdu.Monitor.{Monitor}
use Rattle.gfx_surface.specs.declared.TheConstants.{MOST_SIDE}
use Rattle.gfx_surface.specs.Picture.{Picture, blank}
use Rattle.gfx_surface_map.specs.declared.TheConstants.{MOST_SURFACES, MOST_CELLS}
use Rattle.gfx_surface_map.specs.Shown.{Shown, with_picture, surface_made, surface_deleted, output_reset, is_output_side, output_mapped, surface_copied, copied_to}
use Rattle.gfx_surface_map.specs.declared.place.TheConstants.{MOST_OUTPUT_SIDE}
use Rattle.gfx_surface_map.proofs.RoomLemmas.{copied_to-width, copied_to-height}
use Rattle.gfx_surface_map.specs.Surfaces as map
use Rattle.gfx_surface_map.specs.Surfaces.{Surfaces, cells, created, is_size, painted}
use Rattle.gfx_surface_map.proofs.CreatedLemmas.{created-ok}
use Rattle.gfx_surface_map.proofs.PaintedLemmas.{painted-width, painted-height}
use Rattle.gfx_script.specs.declared.held.Sides.{Sides}
use Rattle.gfx_script.specs.declared.step.Kind.{Kind}
use Rattle.gfx_slot_plan.specs.Plan.{Plan}
use Rattle.gfx_script.specs.Checks as check_of
use Rattle.gfx_script.specs.Checks.{Held, may_add, with_surface, rects_filled, surface_mapped, rect_copied, held_after}
use Rattle.gfx_script.specs.Kinds.{KindedStep, as_kind}
use Rattle.gfx_script.specs.Script.{IsStep}
use Rattle.gfx_script.specs.Scripted.{Script}
use Rattle.gfx_script.specs.declared.error.ScriptKind.{ScriptKind}
use Rattle.gfx_script.specs.declared.error.ScriptKind.TheVariants as fault
use Rattle.gfx_script.specs.declared.step.Step.TheVariants.{Surface, Delete, Reset, Map, Fill, Copy, Frame}
use Rattle.gfx_clear.specs.State.{without_sequence}
use Rattle.gfx_prog_decode.specs.Records.{without_surface as records_but}
use Rattle.gfx_state.specs.State.{State}
use Rattle.gfx_state.specs.Step as message
use Rattle.gfx_state.specs.Step.{graphics_reset, frame_started, frame_ended, is_open, surface_created, surface_ended, showing}
use Rattle.gfx_state.specs.Sending.{all_steps, IsCarried}
use Rattle.gfx_planner.specs.Wanted.{Wanted}
use Rattle.gfx_planner.specs.SurfaceEffects.{drawn_on, drawing, without_surface, with_map, with_copy}
use Rattle.gfx_planner.specs.Want.{wanted_as}
use Rattle.gfx_planner.specs.Server.{Server}
use Rattle.gfx_planner.specs.Made.{Made}
use Rattle.gfx_planner.specs.StepMessages.{one_monitor, made_as}
use Rattle.gfx_planner.specs.Wire.{made_by}
use Rattle.gfx_planner.specs.Holds.{sides_of, HoldsSurfaces}
use Rattle.gfx_planner.proofs.Carried.{carried-create, carried-delete, carried-reset, carried-map, carried-fill, carried-copy, carried-start, carried-end}
use Rattle.gfx_planner.proofs.Effects.{all_steps-one}
use Rattle.gfx_planner.proofs.Paints.{format_back}
use Rattle.gfx_planner.proofs.Held.{holds-made, holds-drawn, holds-deleted, sides-stay}
use Rattle.gfx_planner.proofs.Seen.{AgreeSeen as Agree, HoldsSeen as Holds, KeepsTiles}

-- one message that the state accepts
pub record Accepts (state : State) (pdu : Pdu) (next : State) : Type 0 where
  pub carried : IsCarried pdu
  pub stepped : message.step state pdu ≡ Ok next

-- frames ------------------------------------------------------------------------------------------

pub starts : (state : State) (frame : ℕ) → frame < 2 ^ 32 → state.frame ≡ None → Accepts state (StartFrame 0 frame) (record state { frame = Some frame })
unfolding message.step frame_started and_then
starts state frame fits none = record { carried = carried-start frame fits; stepped = rw none refl }

pub ends : (state : State) (frame : ℕ) → frame < 2 ^ 32 → state.frame ≡ Some frame → Accepts state (EndFrame frame) (record state { frame = None; decoded = (state.decoded + 1) % 2 ^ 32 })
unfolding message.step frame_ended
ends state frame fits some = record {
  carried = carried-end frame fits;
  stepped = and_then_at (check refusal.FrameMismatch (is_open state.frame frame)) tt (λ ended. Ok (record state { frame = None; decoded = (state.decoded + 1) % 2 ^ 32 }))
      (ap (λ o. check refusal.FrameMismatch (is_open o frame)) some ∙ ap (check refusal.FrameMismatch) (eq-eqb frame frame refl));
}

-- surfaces ----------------------------------------------------------------------------------------

-- what a script's checks of a surface say
pub record MayMake (surfaces : Surfaces) (id width height : ℕ) : Type 0 where
  pub absent : get surfaces id ≡ None
  pub sides : is_size width height ≡ true
  pub room : map.fits_beside surfaces width height ≡ true

pub none_of : (o : Option Picture) → is_some (option_map sides_of o) ≡ false → o ≡ None
none_of None e = refl
none_of (Some picture) e = absurd cc

not_true : (b : Bool) → not b ≡ true → b ≡ false
not_true true e = absurd cc
not_true false e = refl

sides_sized : (width height : ℕ) → 1 ≤ width → width ≤ MOST_SIDE → 1 ≤ height → height ≤ MOST_SIDE → is_size width height ≡ true
sides_sized width height w_from w_most h_from h_most = grind (arith, nat_tests)

pub may_make : (held after : Held) (surfaces : Surfaces) (id width height : ℕ) (format : Format) → HoldsSurfaces held.sides held.cells surfaces → IsStep (Surface id width height format)
    → check_of.surface_made held id width height ≡ Ok after → MayMake surfaces id width height × (after ≡ with_surface held id width height)
unfolding check_of.surface_made
may_make held after surfaces id width height format holds numbers checked =
    let first = and_then_ok (check fault.SurfacePresent (not (contains_key held.sides id))) _ after checked in
    let second = and_then_ok (check fault.CellBudget (may_add held width height)) _ after first.2 in
    let fresh : contains_key held.sides id ≡ false = not_true _ (check_ok fault.SurfacePresent (not (contains_key held.sides id)) first.1) in
    let room : may_add held width height ≡ true = check_ok fault.CellBudget (may_add held width height) second.1 in
    let count = sym holds.count in
    let total = sym holds.total in (
      record {
        absent = none_of (get surfaces id) (ap is_some (sym (holds.sides id)) ∙ fresh);
        sides = sides_sized width height numbers.1 numbers.2 numbers.3 numbers.4;
        room = (λ i. nat_lt (count i) MOST_SURFACES && nat_le (total i + cells width height) MOST_CELLS) ∙ room;
      },
      (let same = second.2 in cc),
    )

surface_accepted : (state : State) (id width height : ℕ) (format : Format) → MayMake state.shown.surfaces id width height
    → message.step state (CreateSurface id width height (byte_of format)) ≡ Ok (record state { shown = with_picture state.shown id (blank width height format) })
unfolding message.step surface_created showing surface_made
surface_accepted state id width height format may =
    let absent : contains_key state.shown.surfaces id ≡ false = ap is_some may.absent in
    and_then_at (check refusal.SurfaceExists (not (contains_key state.shown.surfaces id))) tt _ (ap (λ b. check refusal.SurfaceExists (not b)) absent)
    ∙ and_then_at (check refusal.SurfaceSize (is_size width height)) tt _ (ap (check refusal.SurfaceSize) may.sides)
    ∙ and_then_at (ok_or (format_of (byte_of format)) refusal.PixelFormat) format _ (ap (λ o. ok_or o refusal.PixelFormat) (format_back format))
    ∙ and_then_at (surface_made state.shown id width height format) (with_picture state.shown id (blank width height format)) (λ shown. Ok (record state { shown = shown }))
    (and_then_at (created state.shown.surfaces id width height format) (insert state.shown.surfaces id (blank width height format)) (λ surfaces. Ok (record state.shown { surfaces = surfaces }))
    (created-ok state.shown.surfaces id width height format absent may.sides may.room))

-- fills -------------------------------------------------------------------------------------------

-- what a script's checks of a fill say
pub record MayFill (surfaces : Surfaces) (id : ℕ) (rects : List Rect) : Type 0 where
  pub picture : Picture
  pub there : get surfaces id ≡ Some picture
  pub inside : list_all (lies_in picture.width picture.height) rects ≡ true

pub some_of : (o : Option Picture) (sides : Sides) → option_map sides_of o ≡ Some sides → (picture : Picture) × (o ≡ Some picture) × (sides_of picture ≡ sides)
some_of None sides e = absurd cc
some_of (Some picture) sides e = (picture, refl, cc)

pub ok_or_some : {X : Type 0} (o : Option X) (k : ScriptKind) (x : X) → ok_or o k ≡ Ok x → o ≡ Some x
ok_or_some None k x e = absurd cc
ok_or_some (Some y) k x e = ap Some cc

pub may_fill : (held after : Held) (surfaces : Surfaces) (id : ℕ) (rects : List Rect) → HoldsSurfaces held.sides held.cells surfaces → rects_filled held id rects ≡ Ok after
    → MayFill surfaces id rects × (after ≡ held)
unfolding rects_filled
may_fill held after surfaces id rects holds checked =
    let first = and_then_ok (ok_or (get held.sides id) fault.SurfaceAbsent) _ after checked in
    let sides : Sides = first.0 in
    let second = and_then_ok (check fault.Outside (list_all (lies_in sides.width sides.height) rects)) _ after first.2 in
    let found = some_of (get surfaces id) sides (sym (holds.sides id) ∙ ok_or_some (get held.sides id) fault.SurfaceAbsent sides first.1) in (
      record {
        picture = found.0;
        there = found.1;
        inside = ap (λ s. list_all (lies_in s.width s.height) rects) found.2 ∙ check_ok fault.Outside (list_all (lies_in sides.width sides.height) rects) second.1;
      },
      (let same = second.2 in cc),
    )

pub filled : (state : State) (id : ℕ) (colour : Pixel) (rects : List Rect) (may : MayFill state.shown.surfaces id rects)
    → message.step state (SolidFill id colour rects) ≡ Ok (record state { shown = with_picture state.shown id (painted may.picture rects colour) })
unfolding message.step message.rects_filled
filled state id colour rects may =
    and_then_at (ok_or (get state.shown.surfaces id) refusal.NoSurface) may.picture _ (ap (λ o. ok_or o refusal.NoSurface) may.there)
    ∙ and_then_at (check refusal.RectOutside (list_all (lies_in may.picture.width may.picture.height) rects)) tt _ (ap (check refusal.RectOutside) may.inside)

-- steps -------------------------------------------------------------------------------------------

-- the server's end in another state, with another choice of slots
abbrev pub going : Server → State → Plan → Server
going server state plan = record server { state = state; plan = plan }

-- a step is made into messages that are accepted, and the server's end goes on to show what is wanted
pub record Fine (script : Script) (server : Server) (one : KindedStep) (after : Held) : Type 0 where
  pub into : Made
  pub is : made_by script server one ≡ Some into
  pub next : State
  pub accepted : all_steps server.state into.pdus ≡ Ok next
  pub carried : AllByRecursion IsCarried into.pdus
  pub holds : Holds script after (going server next into.plan)
  pub frame : next.frame ≡ server.state.frame
  pub agrees : (wanted : Wanted) → Agree server wanted → Agree (going server next into.plan) (wanted_as script wanted one.kind one.step)
  pub keeps : KeepsTiles one.step server.state next

-- only what is shown changes ------------------------------------------------------------------------

-- the server's end, which shows something else
abbrev pub shows : Server → Shown → Server
shows server shown = record server { state = record server.state { shown = shown } }

holds_shown : (script : Script) (held : Held) (server : Server) (sides : FinMap nat_cmp Sides) (count : ℕ) (shown : Shown) → Holds script held server
    → HoldsSurfaces sides count shown.surfaces → Holds script (record held { sides = sides; cells = count }) (shows server shown)
holds_shown script held server sides count shown holds new = record { drawn = holds.drawn; same = holds.same; surfaces = new; bitmaps = holds.bitmaps; rings = holds.rings }

agree_shown : (server : Server) (wanted : Wanted) (shown wants : Shown) → Agree server wanted → shown ≡ wants → Agree (shows server shown) (record wanted { shown = wants })
agree_shown server wanted shown wants agree same = record { shown = same; slots = agree.slots; plan = agree.plan }

drawn_on_there : (shown : Shown) (id : ℕ) (o : Option Picture) (picture : Picture) (draw : Picture → Picture) → o ≡ Some picture
    → drawn_on shown id o draw ≡ with_picture shown id (draw picture)
unfolding drawn_on
drawn_on_there shown id o picture draw there = rw there refl

-- a surface that is there is drawn on
drawn_same : (shown wanted : Shown) (id : ℕ) (picture : Picture) (draw : Picture → Picture) → get shown.surfaces id ≡ Some picture → shown ≡ wanted
    → with_picture shown id (draw picture) ≡ drawn_on wanted id (get wanted.surfaces id) draw
drawn_same shown wanted id picture draw there same =
    let here : get wanted.surfaces id ≡ Some picture = ap (λ (z : Shown). get z.surfaces id) (sym same) ∙ there in
    ap (λ (z : Shown). with_picture z id (draw picture)) same ∙ sym (drawn_on_there wanted id (get wanted.surfaces id) picture draw here)

pub drawing_agrees : (server : Server) (wanted : Wanted) (id : ℕ) (picture : Picture) (draw : Picture → Picture) → get server.state.shown.surfaces id ≡ Some picture → Agree server wanted
    → Agree (shows server (with_picture server.state.shown id (draw picture))) (drawing wanted id draw)
drawing_agrees server wanted id picture draw there agree =
    agree_shown server wanted _ _ agree (drawn_same server.state.shown wanted.shown id picture draw there agree.shown)

-- making, filling -----------------------------------------------------------------------------------

pub surface_fine : (script : Script) (server : Server) (kind : Option Kind) (held after : Held) (id width height : ℕ) (format : Format) → Holds script held server → IsStep (Surface id width height format)
    → held_after held (Surface id width height format) ≡ Ok after → Fine script server (as_kind kind (Surface id width height format)) after
unfolding made_as wanted_as held_after
surface_fine script server kind held after id width height format holds numbers checked =
    let may = may_make held after server.state.shown.surfaces id width height format holds.surfaces numbers checked in
    let shown = with_picture server.state.shown id (blank width height format) in
    record {
      into = record { pdus = CreateSurface id width height (byte_of format) ∷ []; plan = server.plan };
      is = refl;
      next = record server.state { shown = shown };
      accepted = all_steps-one server.state _ _ (surface_accepted server.state id width height format may.0);
      carried = (carried-create id width height (byte_of format) numbers.0 (omega (arith, numbers.2)) (omega (arith, numbers.4)), tt);
      holds = subst (λ h. Holds script h (shows server shown)) (sym may.1)
          (holds_shown script held server _ _ shown holds
          (holds-made held.sides held.cells server.state.shown.surfaces id (blank width height format) numbers.2 numbers.4 holds.surfaces may.0.absent may.0.room));
      frame = refl;
      agrees = λ wanted agree. agree_shown server wanted _ _ agree (ap (λ (z : Shown). with_picture z id (blank width height format)) agree.shown);
      keeps = (may.0.absent, refl, refl);
    }

sides_painted : (picture : Picture) (rects : List Rect) (colour : Pixel) → sides_of (painted picture rects colour) ≡ sides_of picture
sides_painted picture rects colour =
    let w = painted-width picture rects colour in
    let h = painted-height picture rects colour in
    λ i. record { width = w i; height = h i }

pub fill_fine : (script : Script) (server : Server) (kind : Option Kind) (held after : Held) (id : ℕ) (colour : Pixel) (rects : List Rect) → Holds script held server
    → IsStep (Fill id colour rects) → held_after held (Fill id colour rects) ≡ Ok after → Fine script server (as_kind kind (Fill id colour rects)) after
unfolding made_as wanted_as held_after
fill_fine script server kind held after id colour rects holds numbers checked =
    let may = may_fill held after server.state.shown.surfaces id rects holds.surfaces checked in
    let picture : Picture = may.0.picture in
    let shown = with_picture server.state.shown id (painted picture rects colour) in
    record {
      into = record { pdus = SolidFill id colour rects ∷ []; plan = server.plan };
      is = refl;
      next = record server.state { shown = shown };
      accepted = all_steps-one server.state _ _ (filled server.state id colour rects may.0);
      carried = (carried-fill id colour rects numbers.0 numbers.4 numbers.3, tt);
      holds = subst (λ h. Holds script h (shows server shown)) (sym may.1)
          (holds_shown script held server _ _ shown holds
          (holds-drawn held.sides held.cells server.state.shown.surfaces id picture (painted picture rects colour) holds.surfaces may.0.there (sides_painted picture rects colour)));
      frame = refl;
      agrees = λ wanted agree. drawing_agrees server wanted id picture (λ z. painted z rects colour) may.0.there agree;
      keeps = (sides-stay server.state.shown.surfaces id picture (painted picture rects colour) may.0.there (sides_painted picture rects colour), refl);
    }

-- deleting, resetting, mapping, copying ----------------------------------------------------------------

-- a surface whose sides are held
pub record IsThere (surfaces : Surfaces) (id : ℕ) (sides : Sides) : Type 0 where
  pub picture : Picture
  pub there : get surfaces id ≡ Some picture
  pub same : sides_of picture ≡ sides

pub found_there : (held : Held) (surfaces : Surfaces) (id : ℕ) (sides : Sides) → HoldsSurfaces held.sides held.cells surfaces → ok_or (get held.sides id) fault.SurfaceAbsent ≡ Ok sides → IsThere surfaces id sides
found_there held surfaces id sides holds e =
    let found = some_of (get surfaces id) sides (sym (holds.sides id) ∙ ok_or_some (get held.sides id) fault.SurfaceAbsent sides e) in
    record { picture = found.0; there = found.1; same = found.2 }

-- a state without a surface, and without its records
abbrev bereft : State → ℕ → State
bereft state id = record state { shown = without_surface state.shown id; records = records_but state.records id }

deleted : (state : State) (id : ℕ) → contains_key state.shown.surfaces id ≡ true → message.step state (DeleteSurface id) ≡ Ok (bereft state id)
unfolding message.step surface_ended surface_deleted
deleted state id there =
    and_then_at (surface_deleted state.shown id) (without_surface state.shown id) (λ shown. Ok (record state { shown = shown; records = records_but state.records id }))
    (and_then_at (check refusal.NoSurface (contains_key state.shown.surfaces id)) tt (λ _. Ok (without_surface state.shown id)) (ap (check refusal.NoSurface) there))

pub delete_fine : (script : Script) (server : Server) (kind : Option Kind) (held after : Held) (id : ℕ) → Holds script held server → IsStep (Delete id) → held_after held (Delete id) ≡ Ok after → Fine script server (as_kind kind (Delete id)) after
unfolding made_as wanted_as held_after check_of.surface_deleted
delete_fine script server kind held after id holds numbers checked =
    let first = and_then_ok (ok_or (get held.sides id) fault.SurfaceAbsent) _ after checked in
    let sides : Sides = first.0 in
    let found = found_there held server.state.shown.surfaces id sides holds.surfaces first.1 in
    let gone : Held = check_of.without_surface held id sides in
    let next : State = bereft server.state id in
    let is : gone ≡ after = (let same = first.2 in cc) in
    let left = subst (λ (s : Sides). HoldsSurfaces (remove held.sides id) (held.cells - cells s.width s.height) (remove server.state.shown.surfaces id)) found.same
    (holds-deleted held.sides held.cells server.state.shown.surfaces id found.picture holds.surfaces found.there) in
    record {
      into = record { pdus = DeleteSurface id ∷ []; plan = server.plan };
      is = refl;
      next = next;
      accepted = all_steps-one server.state _ _ (deleted server.state id (ap is_some found.there));
      carried = (carried-delete id numbers, tt);
      holds = subst (λ h. Holds script h (going server next server.plan)) is
          record { drawn = holds.drawn; same = holds.same; surfaces = left; bitmaps = holds.bitmaps; rings = holds.rings };
      frame = refl;
      agrees = λ wanted agree. record { shown = ap (λ (z : Shown). without_surface z id) agree.shown; slots = agree.slots; plan = agree.plan };
      keeps = (refl, refl);
    }

pub output_side : (side : ℕ) → 1 ≤ side → side ≤ MOST_OUTPUT_SIDE → is_output_side side ≡ true
output_side side low high = grind (arith, nat_tests)

pub both_true : (a b : Bool) → a ≡ true → b ≡ true → (a && b) ≡ true
both_true a b p q = rw (p, q) refl

pub was_reset : (state : State) (width height : ℕ) (monitors : List Monitor) → (is_output_side width && is_output_side height) ≡ true
    → message.step state (ResetGraphics width height monitors) ≡ Ok (record state { shown = record state.shown { output = record { width = width; height = height } }; clear = without_sequence state.clear })
unfolding message.step graphics_reset output_reset
was_reset state width height monitors sides =
    and_then_at (output_reset state.shown width height) (record state.shown { output = record { width = width; height = height } }) (λ shown. Ok (record state { shown = shown; clear = without_sequence state.clear }))
    (and_then_at (check refusal.OutputSize (is_output_side width && is_output_side height)) tt (λ _. Ok (record state.shown { output = record { width = width; height = height } })) (ap (check refusal.OutputSize) sides))

pub reset_fine : (script : Script) (server : Server) (kind : Option Kind) (held after : Held) (width height : ℕ) → Holds script held server → IsStep (Reset width height) → held_after held (Reset width height) ≡ Ok after → Fine script server (as_kind kind (Reset width height)) after
unfolding made_as wanted_as held_after
reset_fine script server kind held after width height holds numbers checked =
    let sides = both_true _ _ (output_side width numbers.0 numbers.1) (output_side height numbers.2 numbers.3) in
    let shown : Shown = record server.state.shown { output = record { width = width; height = height } } in
    let next : State = record server.state { shown = shown; clear = without_sequence server.state.clear } in
    record {
      into = record { pdus = ResetGraphics width height (one_monitor width height ∷ []) ∷ []; plan = server.plan };
      is = refl;
      next = next;
      accepted = all_steps-one server.state _ _ (was_reset server.state width height (one_monitor width height ∷ []) sides);
      carried = (
        carried-reset width height (one_monitor width height) (omega (arith, numbers.1)) (omega (arith, numbers.3))
            (record { left = omega arith; top = omega arith; right = omega (arith, numbers.1); bottom = omega (arith, numbers.3); flags = omega arith }),
        tt,
      );
      holds = (let same : held ≡ after = cc in subst (λ h. Holds script h (going server next server.plan)) same
          record { drawn = holds.drawn; same = holds.same; surfaces = holds.surfaces; bitmaps = holds.bitmaps; rings = holds.rings });
      frame = refl;
      agrees = λ wanted agree. record {
        shown = ap (λ (z : Shown). record z { output = record { width = width; height = height } }) agree.shown;
        slots = agree.slots;
        plan = agree.plan;
      };
      keeps = (λ q. refl, refl);
    }

mapped : (state : State) (id x y : ℕ) → contains_key state.shown.surfaces id ≡ true
    → message.step state (MapSurfaceToOutput id 0 x y) ≡ Ok (record state { shown = with_map state.shown id record { x = x; y = y } })
unfolding message.step showing output_mapped
mapped state id x y there =
    and_then_at (output_mapped state.shown id record { x = x; y = y }) (with_map state.shown id record { x = x; y = y }) (λ shown. Ok (record state { shown = shown }))
    (and_then_at (check refusal.NoSurface (contains_key state.shown.surfaces id)) tt (λ _. Ok (with_map state.shown id record { x = x; y = y })) (ap (check refusal.NoSurface) there))

pub some_held : (o : Option Picture) → is_some (option_map sides_of o) ≡ true → is_some o ≡ true
some_held None e = absurd cc
some_held (Some picture) e = refl

pub map_fine : (script : Script) (server : Server) (kind : Option Kind) (held after : Held) (id x y : ℕ) → Holds script held server → IsStep (Map id x y) → held_after held (Map id x y) ≡ Ok after → Fine script server (as_kind kind (Map id x y)) after
unfolding made_as wanted_as held_after surface_mapped
map_fine script server kind held after id x y holds numbers checked =
    let first = and_then_ok (check fault.SurfaceAbsent (contains_key held.sides id)) _ after checked in
    let present : contains_key held.sides id ≡ true = check_ok fault.SurfaceAbsent (contains_key held.sides id) first.1 in
    let there : contains_key server.state.shown.surfaces id ≡ true = some_held (get server.state.shown.surfaces id) (ap is_some (sym (holds.surfaces.sides id)) ∙ present) in
    let shown : Shown = with_map server.state.shown id record { x = x; y = y } in
    record {
      into = record { pdus = MapSurfaceToOutput id 0 x y ∷ []; plan = server.plan };
      is = refl;
      next = record server.state { shown = shown };
      accepted = all_steps-one server.state _ _ (mapped server.state id x y there);
      carried = (carried-map id x y numbers.0 (omega (arith, numbers.1)) (omega (arith, numbers.2)), tt);
      holds = (let same : held ≡ after = (let last = first.2 in cc) in subst (λ h. Holds script h (shows server shown)) same (holds_shown script held server held.sides held.cells shown holds holds.surfaces));
      frame = refl;
      agrees = λ wanted agree. agree_shown server wanted shown _ agree (ap (λ (z : Shown). with_map z id record { x = x; y = y }) agree.shown);
      keeps = (λ q. refl, refl);
    }

was_copied : (state : State) (from to : ℕ) (rect : Rect) (points : List Point) (source target : Picture) → get state.shown.surfaces from ≡ Some source → get state.shown.surfaces to ≡ Some target
    → lies_in source.width source.height rect ≡ true → fit_all target.width target.height rect points ≡ true
    → message.step state (SurfaceToSurface from to rect points) ≡ Ok (record state { shown = with_picture state.shown to (copied_to source rect points target) })
unfolding message.step showing surface_copied
was_copied state from to rect points source target from_there to_there inside fits =
    and_then_at (surface_copied state.shown from to rect points) (with_picture state.shown to (copied_to source rect points target)) (λ shown. Ok (record state { shown = shown }))
    (and_then_at (ok_or (get state.shown.surfaces from) refusal.NoSurface) source _ (ap (λ o. ok_or o refusal.NoSurface) from_there)
    ∙ and_then_at (ok_or (get state.shown.surfaces to) refusal.NoSurface) target _ (ap (λ o. ok_or o refusal.NoSurface) to_there)
    ∙ and_then_at (check refusal.RectOutside (lies_in source.width source.height rect)) tt _ (ap (check refusal.RectOutside) inside)
    ∙ and_then_at (check refusal.RectOutside (fit_all target.width target.height rect points)) tt _ (ap (check refusal.RectOutside) fits))

sides_copied : (source : Picture) (rect : Rect) (points : List Point) (target : Picture) → sides_of (copied_to source rect points target) ≡ sides_of target
sides_copied source rect points target =
    let w = copied_to-width source rect points target in
    let h = copied_to-height source rect points target in
    λ i. record { width = w i; height = h i }

with_copy_there : (wanted : Wanted) (o : Option Picture) (source : Picture) (to : ℕ) (rect : Rect) (points : List Point) → o ≡ Some source → with_copy wanted o to rect points ≡ drawing wanted to (copied_to source rect points)
unfolding with_copy
with_copy_there wanted o source to rect points there = rw there refl

copied_agrees : (server : Server) (wanted : Wanted) (from to : ℕ) (rect : Rect) (points : List Point) (source target : Picture) → get server.state.shown.surfaces from ≡ Some source → get server.state.shown.surfaces to ≡ Some target
    → Agree server wanted → Agree (shows server (with_picture server.state.shown to (copied_to source rect points target))) (with_copy wanted (get wanted.shown.surfaces from) to rect points)
copied_agrees server wanted from to rect points source target from_there to_there agree =
    let there = ap (λ (z : Shown). get z.surfaces from) (sym agree.shown) ∙ from_there in
    subst (Agree (shows server (with_picture server.state.shown to (copied_to source rect points target))))
    (sym (with_copy_there wanted (get wanted.shown.surfaces from) source to rect points there))
    (drawing_agrees server wanted to target (copied_to source rect points) to_there agree)

pub copy_fine : (script : Script) (server : Server) (kind : Option Kind) (held after : Held) (from to : ℕ) (rect : Rect) (points : List Point) → Holds script held server → IsStep (Copy from to rect points)
    → held_after held (Copy from to rect points) ≡ Ok after → Fine script server (as_kind kind (Copy from to rect points)) after
unfolding made_as wanted_as held_after rect_copied
copy_fine script server kind held after from to rect points holds numbers checked =
    let surfaces = server.state.shown.surfaces in
    let first = and_then_ok (ok_or (get held.sides from) fault.SurfaceAbsent) _ after checked in
    let source = found_there held surfaces from first.0 holds.surfaces first.1 in
    let second = and_then_ok (ok_or (get held.sides to) fault.SurfaceAbsent) _ after first.2 in
    let target = found_there held surfaces to second.0 holds.surfaces second.1 in
    let third = and_then_ok (check fault.Outside (lies_in first.0.width first.0.height rect)) _ after second.2 in
    let last = and_then_ok (check fault.Outside (fit_all second.0.width second.0.height rect points)) _ after third.2 in
    let inside = ap (λ (s : Sides). lies_in s.width s.height rect) source.same ∙ check_ok fault.Outside (lies_in first.0.width first.0.height rect) third.1 in
    let fits = ap (λ (s : Sides). fit_all s.width s.height rect points) target.same ∙ check_ok fault.Outside (fit_all second.0.width second.0.height rect points) last.1 in
    let copy = copied_to source.picture rect points target.picture in
    record {
      into = record { pdus = SurfaceToSurface from to rect points ∷ []; plan = server.plan };
      is = refl;
      next = record server.state { shown = with_picture server.state.shown to copy };
      accepted = all_steps-one server.state _ _ (was_copied server.state from to rect points source.picture target.picture source.there target.there inside fits);
      carried = (carried-copy from to rect points numbers.0 numbers.1 numbers.2 numbers.5 numbers.4, tt);
      holds = (let same : held ≡ after = (let end = last.2 in cc) in subst (λ h. Holds script h (shows server (with_picture server.state.shown to copy))) same
          (holds_shown script held server _ _ _ holds
          (holds-drawn held.sides held.cells surfaces to target.picture copy holds.surfaces target.there (sides_copied source.picture rect points target.picture))));
      frame = refl;
      agrees = λ wanted agree. copied_agrees server wanted from to rect points source.picture target.picture source.there target.there agree;
      keeps = (sides-stay surfaces to target.picture copy target.there (sides_copied source.picture rect points target.picture), refl);
    }

pub frame_fine : (script : Script) (server : Server) (kind : Option Kind) (held after : Held) → Holds script held server → held_after held Frame ≡ Ok after → Fine script server (as_kind kind Frame) after
unfolding made_as wanted_as held_after all_steps
frame_fine script server kind held after holds checked = record {
  into = record { pdus = []; plan = server.plan };
  is = refl;
  next = server.state;
  accepted = refl;
  carried = tt;
  holds = (let same : held ≡ after = cc in subst (λ h. Holds script h server) same holds);
  frame = refl;
  agrees = λ wanted agree. agree;
  keeps = (λ q. refl, refl);
}
