-- A frame on the wire that several steps share.
use Rattle.std.proofs.Common.{◌≡◌, ◌+◌, ◌<◌, ◌^◌, ◌%◌, ℕ, false, List, [], ◌∷◌, ◌++◌, fold, map, Option, Some, None, Result, Ok, Err, refl, sym, ap, ◌∙◌, subst, arith}
use Rattle.std.specs.FinMap.{get}
use Rattle.std.specs.List.{AllByRecursion, slice_get}
use Rattle.gfx_base.specs.declared.format.Format.{Format}
use Rattle.gfx_base.specs.declared.geometry.Point.{Point}
use Rattle.gfx_base.specs.declared.geometry.Rect.{Rect}
use Rattle.gfx_base.specs.declared.refusal.Refusal.{Refusal}
use Rattle.gfx_clear.specs.State.{ClearState}
use Rattle.gfx_clear.specs.declared.layer.Layer.{Layer}
use Rattle.gfx_pdu.specs.declared.pdu.Pdu.{Pdu}
use Rattle.gfx_pdu.specs.declared.pdu.Pdu.TheVariants.{EvictCacheEntry}
use Rattle.gfx_script.specs.Checks.{Held, held_after, held_through}
use Rattle.gfx_script.specs.Kinds.{KindedStep, HasKind}
use Rattle.gfx_script.specs.Script.{IsStep}
use Rattle.gfx_script.specs.Scripted.{Script}
use Rattle.gfx_script.specs.declared.picture.Picture.{Picture as Source}
use Rattle.gfx_script.specs.declared.step.Kind.{Kind}
use Rattle.gfx_script.specs.declared.step.Step.{Step}
use Rattle.gfx_script.specs.declared.step.Step.TheVariants.{Surface, Delete, Reset, Map, Fill, Copy, Keep, Show, Forget, Paint, Improve, Frame}
use Rattle.gfx_prog_live.specs.Live.{Passes}
use Rattle.gfx_slot_plan.specs.declared.kept.Kept.{Kept}
use Rattle.gfx_slot_plan.specs.Plan.{Plan}
use Rattle.gfx_state.specs.History.{ends_frame}
use Rattle.gfx_state.specs.State.{State}
use Rattle.gfx_state.specs.Sending.{all_steps, IsCarried}
use Rattle.gfx_surface.specs.Picture.{Picture}
use Rattle.gfx_planner.specs.Wanted.{Wanted}
use Rattle.gfx_planner.specs.Want.{wanted_after}
use Rattle.gfx_planner.specs.Server.{Server}
use Rattle.gfx_planner.specs.Made.{alone, pdus_of}
use Rattle.gfx_planner.specs.BitmapMessages.{showing_slot, emptying, keeping}
use Rattle.gfx_planner.specs.PaintMessages.{painting}
use Rattle.gfx_planner.specs.TileMessages.{painting_in_passes, passes_message, improving}
use Rattle.gfx_planner.specs.VideoMessages.{painting_as_video, video_message}
use Rattle.gfx_planner.specs.StepMessages.{made_as, paint_made}
use Rattle.gfx_planner.specs.Wire.{messages, frame_start, frame_end}
use Rattle.gfx_planner.specs.After.{after_put, after_open, after_close}
use Rattle.gfx_planner.specs.Agree.{Agree}
use Rattle.gfx_planner.specs.Holds.{Holds}
use Rattle.gfx_planner.specs.Allowed.{IsInFrame}
use Rattle.gfx_planner.specs.Joined.{all_messages, after_all, frame_of, after_frame}
use Rattle.gfx_planner.specs.JoinedShown.{JoinedFramesAreShown}
use Rattle.gfx_script.specs.Ways.{goes_by}
use Rattle.gfx_script.specs.declared.way.Way.{Way}
use Rattle.gfx_script.specs.declared.way.Way.TheVariants.{Uncompressed, ByLayer, InPasses, Video}
use Rattle.gfx_planner.proofs.Lists.{all_both}
use Rattle.gfx_planner.proofs.Effects.{all_steps-none, all_steps-one}
use Rattle.gfx_planner.proofs.Steps.{step_fine, messages-is, after_put-is}
use Rattle.gfx_planner.proofs.Streams.{bare, opens_frame, closes_frame, held_through-cons, held_through-nil, both}
use Rattle.gfx_planner.proofs.SurfaceSteps.{starts, ends}
use Rattle.gfx_planner.proofs.Whole.{gone}
use Rattle.gfx_script.specs.Writes.{place_of}

-- no message of a step ends a frame -----------------------------------------------------------------

-- a message that ends no frame
abbrev pub StaysInside : Pdu → Type 0
StaysInside pdu = ends_frame pdu ≡ false

evictions_stay : (slots : List ℕ) → AllByRecursion StaysInside (map EvictCacheEntry slots)
evictions_stay [] = tt
evictions_stay (slot ∷ slots) = (refl, evictions_stay slots)

painting_stays : (layer : Option Layer) (clear : ClearState) (surface : Option Picture) (picture : Option Source) (glyph : Option ℕ) (id : ℕ) (at : Point) (plan : Plan)
    → AllByRecursion StaysInside (pdus_of (alone (painting layer clear surface picture glyph id at) plan))
unfolding painting
painting_stays layer clear (Some surface) (Some picture) glyph id at plan = (refl, tt)
painting_stays layer clear None picture glyph id at plan = tt
painting_stays layer clear (Some surface) None glyph id at plan = tt

showing_stays : (slot : Option ℕ) (to : ℕ) (points : List Point) (plan : Plan) → AllByRecursion StaysInside (pdus_of (alone (showing_slot slot to points) plan))
unfolding showing_slot
showing_stays None to points plan = tt
showing_stays (Some slot) to points plan = (refl, tt)

emptying_stays : (slot : Option ℕ) (plan : Plan) → AllByRecursion StaysInside (pdus_of (alone (emptying slot) plan))
unfolding emptying
emptying_stays None plan = tt
emptying_stays (Some slot) plan = (refl, tt)

keeping_stays : (found : Result (Plan × Kept) Refusal) (id key : ℕ) (rect : Rect) → AllByRecursion StaysInside (pdus_of (keeping found id key rect))
unfolding keeping
keeping_stays (Err r) id key rect = tt
keeping_stays (Ok found) id key rect = all_both StaysInside (map EvictCacheEntry found.1.dropped) _ (evictions_stay found.1.dropped) (refl, tt)

-- nor a message of what is painted in passes
passes_stay : (id : ℕ) (format : Format) (payloads : List (List ℕ)) → AllByRecursion StaysInside (map (passes_message id format) payloads)
passes_stay id format [] = tt
passes_stay id format (payload ∷ payloads) = (refl, passes_stay id format payloads)

tiles_stay : (script : Script) (passes : Passes) (surface : Option Picture) (picture : Option Source) (id : ℕ) (at : Point) (plan : Plan)
    → AllByRecursion StaysInside (pdus_of (painting_in_passes script passes surface picture id at plan))
unfolding painting_in_passes
tiles_stay script passes (Some surface) (Some picture) id at plan = passes_stay id surface.format _
tiles_stay script passes None picture id at plan = tt
tiles_stay script passes (Some surface) None id at plan = tt

improving_stays : (script : Script) (passes : Passes) (surface : Option Picture) (id : ℕ) (plan : Plan) → AllByRecursion StaysInside (pdus_of (improving script passes surface id plan))
unfolding improving
improving_stays script passes None id plan = tt
improving_stays script passes (Some surface) id plan = passes_stay id surface.format _

video_stays : (id : ℕ) (format : Format) (rect : Rect) (payloads : List (List ℕ)) → AllByRecursion StaysInside (map (video_message id format rect) payloads)
video_stays id format rect [] = tt
video_stays id format rect (payload ∷ payloads) = (refl, video_stays id format rect payloads)

-- nor one of video
video_paint_stays : (script : Script) (number : ℕ) (surface : Option Picture) (picture : Option Source) (id : ℕ) (at : Point) (plan : Plan)
    → AllByRecursion StaysInside (pdus_of (painting_as_video script number surface picture id at plan))
unfolding painting_as_video
video_paint_stays script number (Some surface) (Some picture) id at plan = video_stays id surface.format (place_of picture at) _
video_paint_stays script number None picture id at plan = tt
video_paint_stays script number (Some surface) None id at plan = tt

paint_stays : (script : Script) (state : State) (passes : Passes) (plan : Plan) (way : Option Way) (source : Option Source) (glyph : Option ℕ) (id : ℕ) (at : Point)
    → AllByRecursion StaysInside (pdus_of (paint_made script state passes plan way source glyph id at))
unfolding paint_made
paint_stays script state passes plan None source glyph id at = tt
paint_stays script state passes plan (Some Uncompressed) source glyph id at = painting_stays None state.clear (get state.shown.surfaces id) source glyph id at plan
paint_stays script state passes plan (Some (ByLayer layer)) source glyph id at = painting_stays (Some layer) state.clear (get state.shown.surfaces id) source glyph id at plan
paint_stays script state passes plan (Some InPasses) source glyph id at = tiles_stay script passes (get state.shown.surfaces id) source id at plan
paint_stays script state passes plan (Some Video) source glyph id at = video_paint_stays script passes.videos (get state.shown.surfaces id) source id at plan

made_stays : (script : Script) (state : State) (passes : Passes) (plan : Plan) (kind : Option Kind) (step : Step) → AllByRecursion StaysInside (pdus_of (made_as script state passes plan kind step))
unfolding made_as
made_stays script state passes plan kind (Surface id width height format) = (refl, tt)
made_stays script state passes plan kind (Delete id) = (refl, tt)
made_stays script state passes plan kind (Reset width height) = (refl, tt)
made_stays script state passes plan kind (Map id x y) = (refl, tt)
made_stays script state passes plan kind (Fill id colour rects) = (refl, tt)
made_stays script state passes plan kind (Copy from to rect points) = (refl, tt)
made_stays script state passes plan kind (Keep id key rect) = keeping_stays _ id key rect
made_stays script state passes plan kind (Show key to points) = showing_stays _ to points _
made_stays script state passes plan kind (Forget key) = emptying_stays _ _
made_stays script state passes plan kind (Paint id picture at named glyph) =
    paint_stays script state passes plan (goes_by script.thin kind) (slice_get script.pictures picture) glyph id at
made_stays script state passes plan kind (Improve id) = improving_stays script passes (get state.shown.surfaces id) id plan
made_stays script state passes plan kind Frame = tt

pub messages_stay : (script : Script) (server : Server) (one : KindedStep) → AllByRecursion StaysInside (messages script server one)
unfolding messages
messages_stay script server one = made_stays script server.state server.passes server.plan one.kind one.step

pub all_messages-nil : (script : Script) (server : Server) → all_messages script server [] ≡ []
unfolding all_messages
all_messages-nil script server = refl

pub all_messages-cons : (script : Script) (server : Server) (one : KindedStep) (steps : List KindedStep)
    → all_messages script server (one ∷ steps) ≡ messages script server one ++ all_messages script (after_put script server one) steps
unfolding all_messages
all_messages-cons script server one steps = refl

pub after_all-nil : (script : Script) (server : Server) → after_all script server [] ≡ server
unfolding after_all
after_all-nil script server = refl

pub after_all-cons : (script : Script) (server : Server) (one : KindedStep) (steps : List KindedStep) → after_all script server (one ∷ steps) ≡ after_all script (after_put script server one) steps
unfolding after_all
after_all-cons script server one steps = refl

pub all_messages_stay : (script : Script) (server : Server) (steps : List KindedStep) → AllByRecursion StaysInside (all_messages script server steps)
all_messages_stay script server [] = subst (AllByRecursion StaysInside) (sym (all_messages-nil script server)) tt
all_messages_stay script server (one ∷ steps) =
    subst (AllByRecursion StaysInside) (sym (all_messages-cons script server one steps))
    (all_both StaysInside (messages script server one) _ (messages_stay script server one) (all_messages_stay script (after_put script server one) steps))

-- steps inside a frame ------------------------------------------------------------------------------

-- the server's end inside a frame, in step with the script
pub record Inside (script : Script) (server : Server) (held : Held) (wanted : Wanted) : Type 0 where
  pub holds : Holds script held server
  pub agrees : Agree server wanted
  pub frame : IsInFrame server

-- and after these steps
pub record PutsAll (script : Script) (server : Server) (steps : List KindedStep) (after : Held) (wanted : Wanted) : Type 0 where
  pub accepted : all_steps server.state (all_messages script server steps) ≡ Ok (after_all script server steps).state
  pub carried : AllByRecursion IsCarried (all_messages script server steps)
  pub inside : Inside script (after_all script server steps) after wanted
  pub frames : (after_all script server steps).frames ≡ server.frames

-- one step
pub record PutsOne (script : Script) (server : Server) (one : KindedStep) (after : Held) (wanted : Wanted) : Type 0 where
  pub accepted : all_steps server.state (messages script server one) ≡ Ok (after_put script server one).state
  pub carried : AllByRecursion IsCarried (messages script server one)
  pub inside : Inside script (after_put script server one) after wanted
  pub frames : (after_put script server one).frames ≡ server.frames

pub puts_one : (script : Script) (server : Server) (one : KindedStep) (held after : Held) (wanted : Wanted) → Inside script server held wanted → IsStep one.step → HasKind one → held_after held one.step ≡ Ok after
    → PutsOne script server one after (wanted_after script wanted one)
puts_one script server one held after wanted inside numbers kind checked =
    let fine = step_fine script server one.kind held after one.step inside.holds numbers kind checked in
    let pdus : messages script server one ≡ fine.into.pdus = messages-is script server one fine.into fine.is in
    let put_is : after_put script server one ≡ gone script server one fine.next fine.into.plan = after_put-is script server one fine.into fine.next fine.is fine.accepted in
    record {
      accepted = ap (all_steps server.state) pdus ∙ fine.accepted ∙ ap (λ z. Ok z.state) (sym put_is);
      carried = subst (AllByRecursion IsCarried) (sym pdus) fine.carried;
      inside = record {
        holds = subst (Holds script after) (sym put_is) fine.holds;
        agrees = subst (λ z. Agree z (wanted_after script wanted one)) (sym put_is) (fine.agrees wanted inside.agrees);
        frame = ap (λ z. z.state.frame) put_is ∙ fine.frame ∙ inside.frame ∙ ap (λ z. Some z.frames) (sym put_is);
      };
      frames = ap (λ z. z.frames) put_is;
    }

pub puts_all : (script : Script) (server : Server) (steps : List KindedStep) (held after : Held) (wanted : Wanted) → Inside script server held wanted → AllByRecursion IsStep (bare steps) → AllByRecursion HasKind steps
    → held_through held (bare steps) ≡ Ok after → PutsAll script server steps after (fold (wanted_after script) wanted steps)
puts_all script server [] held after wanted inside numbers kinds checked =
    let same = after_all-nil script server in
    let pdus = all_messages-nil script server in
    record {
      accepted = ap (all_steps server.state) pdus ∙ all_steps-none server.state ∙ ap (λ z. Ok z.state) (sym same);
      carried = subst (AllByRecursion IsCarried) (sym pdus) tt;
      inside = subst (λ z. Inside script z after wanted) (sym same) (subst (λ h. Inside script server h wanted) (held_through-nil held after checked) inside);
      frames = ap (λ z. z.frames) same;
    }
puts_all script server (one ∷ steps) held after wanted inside numbers kinds checked =
    let c = held_through-cons held after one.step (bare steps) checked in
    let first = puts_one script server one held c.0 wanted inside numbers.0 kinds.0 c.1 in
    let next : Server = after_put script server one in
    let others = puts_all script next steps c.0 after (wanted_after script wanted one) first.inside numbers.1 kinds.1 c.2 in
    let same = after_all-cons script server one steps in
    let pdus = all_messages-cons script server one steps in
    record {
      accepted = ap (all_steps server.state) pdus ∙ both server.state next.state _ (messages script server one) (all_messages script next steps) first.accepted others.accepted ∙ ap (λ z. Ok z.state) (sym same);
      carried = subst (AllByRecursion IsCarried) (sym pdus) (all_both IsCarried (messages script server one) (all_messages script next steps) first.carried others.carried);
      inside = subst (λ z. Inside script z after (fold (wanted_after script) (wanted_after script wanted one) steps)) (sym same) others.inside;
      frames = ap (λ z. z.frames) same ∙ others.frames ∙ first.frames;
    }

-- the frame whole -----------------------------------------------------------------------------------

frame_of-is : (script : Script) (server : Server) (steps : List KindedStep)
    → frame_of script server steps ≡ frame_start server ∷ (all_messages script (after_open server) steps ++ frame_end (after_all script (after_open server) steps) ∷ [])
unfolding frame_of
frame_of-is script server steps = refl

after_frame-is : (script : Script) (server : Server) (steps : List KindedStep) → after_frame script server steps ≡ after_close (after_all script (after_open server) steps)
unfolding after_frame
after_frame-is script server steps = refl

-- what a frame word changes of the server's end leaves it in step
reframed_holds : (script : Script) (held : Held) (server : Server) (frame : Option ℕ) (decoded frames : ℕ) → Holds script held server
    → Holds script held (record server { state = record server.state { frame = frame; decoded = decoded }; frames = frames })
reframed_holds script held server frame decoded frames holds = record { drawn = holds.drawn; same = holds.same; surfaces = holds.surfaces; bitmaps = holds.bitmaps; setting = holds.setting; tiles = holds.tiles; number = holds.number; rings = holds.rings }

reframed_agrees : (server : Server) (wanted : Wanted) (frame : Option ℕ) (decoded frames : ℕ) → Agree server wanted
    → Agree (record server { state = record server.state { frame = frame; decoded = decoded }; frames = frames }) wanted
reframed_agrees server wanted frame decoded frames agrees = record { shown = agrees.shown; slots = agrees.slots; plan = agrees.plan; passes = agrees.passes }

pub joined_frames_are_shown : JoinedFramesAreShown
joined_frames_are_shown script server steps held after wanted few none holds agrees numbers kinds checked =
    let start = starts server.state (server.frames + 1) few none in
    let opened = opens_frame server few none in
    let ready : Server = after_open server in
    let ready_in : Inside script ready held wanted = record {
      holds = subst (Holds script held) (sym opened) (reframed_holds script held server (Some (server.frames + 1)) server.state.decoded (server.frames + 1) holds);
      agrees = subst (λ z. Agree z wanted) (sym opened) (reframed_agrees server wanted (Some (server.frames + 1)) server.state.decoded (server.frames + 1) agrees);
      frame = ap (λ z. z.state.frame) opened ∙ ap (λ z. Some z.frames) (sym opened);
    } in
    let put = puts_all script ready steps held after wanted ready_in numbers kinds checked in
    let last : Server = after_all script ready steps in
    let last_frames : last.frames ≡ server.frames + 1 = put.frames ∙ ap (λ z. z.frames) opened in
    let fits : last.frames < 2 ^ 32 = omega (arith, last_frames) in
    let end = ends last.state last.frames fits put.inside.frame in
    let closed = closes_frame last fits put.inside.frame in
    let is = after_frame-is script server steps ∙ closed in
    let pdus = frame_of-is script server steps in
    let first = all_steps-one server.state _ (frame_start server) start.stepped ∙ ap (λ z. Ok z.state) (sym opened) in
    let final = all_steps-one last.state _ (frame_end last) end.stepped ∙ ap (λ z. Ok z.state) (sym is) in
    record {
      accepted =
          ap (all_steps server.state) pdus
          ∙ both server.state ready.state _ (frame_start server ∷ []) _ first (both ready.state last.state _ (all_messages script ready steps) (frame_end last ∷ []) put.accepted final);
      carried = subst (AllByRecursion IsCarried) (sym pdus) (start.carried, all_both IsCarried (all_messages script ready steps) (frame_end last ∷ []) put.carried (end.carried, tt));
      inside = all_messages_stay script ready steps;
      frame = ap (λ z. z.state.frame) is;
      frames = ap (λ z. z.frames) is ∙ last_frames;
      ends = last_frames;
      holds = subst (Holds script after) (sym is) (reframed_holds script after last None ((last.state.decoded + 1) % 2 ^ 32) last.frames put.inside.holds);
      agrees = subst (λ z. Agree z (fold (wanted_after script) wanted steps)) (sym is) (reframed_agrees last (fold (wanted_after script) wanted steps) None ((last.state.decoded + 1) % 2 ^ 32) last.frames put.inside.agrees);
    }
