-- Where nothing waits and nothing is left, a session of the forgotten script may have begun: the steps that are forgotten are
-- frames, which check, want and hold nothing.
use Rattle.std.proofs.Common.{◌≡◌, true, ◌≤◌, ℕ, zero, suc, IsTrue, List, ◌∷◌, ◌++◌, length, replicate, None, Ok, refl, sym, ap, ◌∙◌, subst, arith}
use Rattle.std.specs.List.{AllByRecursion}
use Rattle.std.proofs.lemmas.List.{append-nil, drop_all, length-map, length-replicate}
use Rattle.gfx_base.proofs.ResultLemmas.{and_then_at}
use Rattle.gfx_alike.proofs.Steps.{alike_itself}
use Rattle.gfx_script.specs.Checks.{Held, held_after, held_through, sides_of_all}
use Rattle.gfx_script.specs.Drafts.{sides_of}
use Rattle.gfx_script.specs.Kinds.{KindedStep, HasKind, as_kind}
use Rattle.gfx_script.specs.Pictures.{IsDrawn}
use Rattle.gfx_script.specs.Script.{IsAcceptedFrom, IsStep, is_framed}
use Rattle.gfx_script.specs.Scripted.{Script}
use Rattle.gfx_script.specs.Writes.{writes_by}
use Rattle.gfx_script.specs.declared.step.Step.TheVariants.{Frame}
use Rattle.gfx_planner.specs.Agree.{Agree}
use Rattle.gfx_planner.specs.Holds.{Holds}
use Rattle.gfx_planner.specs.Passes.{ended_by, passes_as}
use Rattle.gfx_planner.specs.Server.{Server}
use Rattle.gfx_planner.specs.Want.{wanted_as, want_from}
use Rattle.gfx_planner.specs.Wanted.{Wanted}
use Rattle.gfx_planner.proofs.Streams.{bare}
use Rattle.gfx_script.specs.Forgetting.{blank, forgotten, sides_forgotten}
use Rattle.gfx_schedule.specs.Forgetting.{ForgettingIsPlanned}
use Rattle.gfx_schedule.specs.Starts.{MayStart, Start}

-- frames ----------------------------------------------------------------------------------------------------------

-- so many frames, as they go
abbrev only_frames : ℕ → List KindedStep
only_frames count = replicate count (as_kind None Frame)

frames_bare : (count : ℕ) → bare (only_frames count) ≡ replicate count Frame
frames_bare zero = refl
frames_bare (suc count) = ap (λ z. Frame ∷ z) (frames_bare count)

frames_through : (held : Held) (count : ℕ) → held_through held (replicate count Frame) ≡ Ok held
unfolding held_through held_after
frames_through held zero = refl
frames_through held (suc count) =
    and_then_at (held_after held Frame) held (λ next. held_through next (replicate count Frame)) refl ∙ frames_through held count

frames_want : (script : Script) (wanted : Wanted) (count : ℕ) → want_from script wanted (only_frames count) ≡ wanted
unfolding wanted_as passes_as writes_by ended_by
frames_want script wanted zero = refl
frames_want script wanted (suc count) = frames_want script wanted count

frames_steps : (count : ℕ) → AllByRecursion IsStep (replicate count Frame)
frames_steps zero = tt
frames_steps (suc count) = (tt, frames_steps count)

frames_kinds : (count : ℕ) → AllByRecursion HasKind (only_frames count)
frames_kinds zero = tt
frames_kinds (suc count) = (refl, frames_kinds count)

frames_framed : (count : ℕ) → IsTrue (is_framed (replicate count Frame))
frames_framed zero = refl
frames_framed (suc zero) = refl
frames_framed (suc (suc count)) = frames_framed (suc count)

-- blank pictures ---------------------------------------------------------------------------------------------------

blank_drawn : IsDrawn blank
blank_drawn = record {
  width_from = omega arith;
  width_fits = omega arith;
  height_from = omega arith;
  height_fits = omega arith;
  area = omega arith;
}

blanks_drawn : (count : ℕ) → AllByRecursion IsDrawn (replicate count blank)
blanks_drawn zero = tt
blanks_drawn (suc count) = (blank_drawn, blanks_drawn count)

blanks_sides : (count : ℕ) → sides_of_all (replicate count blank) ≡ replicate count (sides_of blank)
blanks_sides zero = refl
blanks_sides (suc count) = ap (λ z. sides_of blank ∷ z) (blanks_sides count)

-- the sides that are held then are those of the forgotten script's pictures
pub sides_are : (held : Held) (script : Script) → held.pictures ≡ sides_of_all script.pictures → (sides_forgotten (length script.pictures) held).pictures ≡ sides_of_all (forgotten script).pictures
sides_are held script same =
    let count : ℕ = length script.pictures in
    let few : length held.pictures ≤ count = omega (arith, ap length same, length-map script.pictures sides_of) in
    ap (λ z. replicate count (sides_of blank) ++ z) (drop_all count held.pictures few) ∙ append-nil (replicate count (sides_of blank)) ∙ sym (blanks_sides count)

-- the forgotten script is accepted -----------------------------------------------------------------------------------

-- its first step is checked against what all steps had left
pub forgotten_accepted : (held : Held) (script : Script) (good : IsAcceptedFrom held script) → IsAcceptedFrom (sides_forgotten (length script.pictures) good.held) (forgotten script)
forgotten_accepted held script good = record {
  window_from = good.window_from;
  window_most = good.window_most;
  some_offers = good.some_offers;
  few_offers = good.few_offers;
  offers = good.offers;
  setting = good.setting;
  small = good.small;
  thin = good.thin;
  few_pictures = omega (arith, good.few_pictures, length-replicate (length script.pictures) blank);
  pictures = blanks_drawn (length script.pictures);
  few = omega (arith, good.few, length-replicate (length script.steps) Frame);
  numbers = frames_steps (length script.steps);
  held = sides_forgotten (length script.pictures) good.held;
  checked = frames_through (sides_forgotten (length script.pictures) good.held) (length script.steps);
  framed = frames_framed (length script.steps);
  few_turns = good.few_turns;
  turns = good.turns;
}

-- and its steps leave that
pub forgotten_held : (held : Held) (script : Script) (good : IsAcceptedFrom held script) → (forgotten_accepted held script good).held ≡ sides_forgotten (length script.pictures) good.held
unfolding forgotten_accepted
forgotten_held held script good = refl

-- as they do however it is accepted
pub forgotten_leaves : (held : Held) (script : Script) (good : IsAcceptedFrom held (forgotten script)) → good.held ≡ held
forgotten_leaves held script good = let ok : Ok good.held ≡ Ok held = sym good.checked ∙ frames_through held (length script.steps) in cc

-- a session of it may have begun ---------------------------------------------------------------------------------------

-- the start at which all that was sent is there already
abbrev again : Start → Script → List KindedStep → Held → Server → Start
again start script gone held server = record {
  server = record server { frames = 0 };
  wanted = want_from script start.wanted gone;
  held = sides_forgotten (length script.pictures) held;
  client = server.state;
  confirmed = true;
}

-- the checks are right about the same server's end, however many frames it counts
holds_again : (script : Script) (held : Held) (server : Server) (count : ℕ) → Holds script held server → Holds (forgotten script) (sides_forgotten (length script.pictures) held) (record server { frames = count })
holds_again script held server count holds = record {
  drawn = blanks_drawn (length script.pictures);
  same = sides_are held script holds.same;
  surfaces = holds.surfaces;
  bitmaps = holds.bitmaps;
  setting = holds.setting;
  tiles = holds.tiles;
  number = holds.number;
  rings = holds.rings;
}

may_start_again : (start : Start) (script : Script) (gone : List KindedStep) (held : Held) (server : Server) → Holds script held server → Agree server (want_from script start.wanted gone) → server.state.frame ≡ None
    → MayStart (forgotten script) (again start script gone held server)
may_start_again start script gone held server holds agrees closed = record {
  holds = holds_again script held server 0 holds;
  agrees = record { shown = agrees.shown; slots = agrees.slots; plan = agrees.plan; passes = agrees.passes };
  closed = closed;
  frames = refl;
  greets = λ unconfirmed. absurd cc;
}

pub forgetting_is_planned : ForgettingIsPlanned
forgetting_is_planned start script kinded end gone begins plan none =
    let count : ℕ = length script.steps in
    let held : Held = begins.accepted.held in
    let sides : Held = sides_forgotten (length script.pictures) held in
    let all_gone : kinded ≡ gone = plan.cut ∙ ap (λ z. gone ++ z) none ∙ append-nil gone in
    let steps : bare gone ≡ script.steps = ap bare (sym all_gone) ∙ begins.fits.same in
    let there : plan.held ≡ held = (let ok : Ok plan.held ≡ Ok held = sym plan.checked ∙ ap (held_through start.held) steps ∙ begins.accepted.checked in cc) in
    let as_many : length gone ≡ length (only_frames count) =
    omega (arith, ap length steps, length-map gone (λ (one : KindedStep). one.step), length-replicate count (as_kind None Frame)) in
    let holds : Holds script held end.server = subst (λ z. Holds script z end.server) there plan.holds in
    record {
      origin = again start script gone held end.server;
      checks = refl;
      kinded = only_frames count;
      begins = record {
        accepted = forgotten_accepted start.held script begins.accepted;
        fits = record { same = frames_bare count; kinds = frames_kinds count };
        may = may_start_again start script gone held end.server holds plan.agrees plan.frame;
        alike = alike_itself end.server.state;
      };
      gone = only_frames count;
      plan = record {
        cut = sym (append-nil (only_frames count)) ∙ ap (λ z. only_frames count ++ z) (sym none);
        last = omega (arith, plan.last, as_many);
        pending = plan.pending;
        held = sides;
        checked = ap (held_through sides) (frames_bare count) ∙ frames_through sides count;
        holds = holds_again script held end.server end.server.frames holds;
        agrees = subst (Agree end.server) (sym (frames_want (forgotten script) (want_from script start.wanted gone) count)) plan.agrees;
        frame = plan.frame;
        frames = omega (arith, plan.frames, as_many);
      };
    }
