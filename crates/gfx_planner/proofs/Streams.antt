-- The stream of an accepted script: step by step it is accepted, and shows what is wanted.
use Rattle.std.proofs.Common.{◌≡◌, ◌+◌, ◌%◌, ◌≤◌, ◌<◌, ◌^◌, cond, List, [], ◌∷◌, ◌++◌, length, fold, map, Some, None, is_some, Ok, inl, inr, refl, sym, ap, ◌∙◌, subst, arith, append_assoc, length-append}
use Rattle.std.proofs.lemmas.List.{map-append, length-map}
use Rattle.std.specs.FinMap.{get}
use Rattle.std.specs.List.{AllByRecursion}
use Rattle.gfx_base.specs.Results.{and_then}
use Rattle.gfx_base.proofs.ResultLemmas.{and_then_at, and_then_ok}
use Rattle.gfx_clear_store.specs.Rings.{AreRings}
use Rattle.gfx_clear.proofs.Keeping.{rings_fresh}
use Rattle.gfx_pdu.specs.declared.pdu.Pdu.{Pdu}
use Rattle.gfx_prog_live.specs.Live.{Passes}
use Rattle.gfx_prog_decode.specs.Records.{Records}
use Rattle.gfx_script.specs.Checks.{Held, held_first, sides_of_all, held_after, held_through}
use Rattle.gfx_script.specs.Kinds.{KindedStep, HasKind, Fits}
use Rattle.gfx_script.specs.Script.{IsStep, IsAccepted}
use Rattle.gfx_script.specs.Scripted.{Script}
use Rattle.gfx_script.specs.declared.step.Step.{Step}
use Rattle.gfx_script.specs.declared.step.Step.TheVariants.{Frame}
use Rattle.gfx_state.specs.State.{State, fresh}
use Rattle.gfx_state.specs.Sending.{all_steps, sent, IsCarried, count_after}
use Rattle.gfx_state.proofs.Sent.{all_steps-append, sent-append}
use Rattle.gfx_state.proofs.Wider.{sent_wider, started_fresh, Wider_same}
use Rattle.gfx_planner.specs.Tiles.{HoldsLive, HoldsTiles}
use Rattle.gfx_planner.specs.Wanted.{Wanted, nothing_wanted}
use Rattle.gfx_planner.specs.Want.{wanted_after, want}
use Rattle.gfx_planner.specs.Server.{Server, at_start}
use Rattle.gfx_planner.specs.Wire.{messages, frame_start, frame_end}
use Rattle.gfx_planner.specs.After.{after_put, after_open, after_close}
use Rattle.gfx_planner.specs.Agree.{Agree}
use Rattle.gfx_planner.specs.Holds.{HoldsSurfaces, HoldsBitmaps, Holds}
use Rattle.gfx_planner.specs.Allowed.{IsInFrame, KeepsFrame, IsAllowed}
use Rattle.gfx_planner.specs.Stream.{opening, opened, closing, closed, sends, served, stream, served_all, end_after}
use Rattle.gfx_planner.specs.Shows.{ScriptsAreShown}
use Rattle.gfx_planner.proofs.TilesFollow.{has-records, tiles-at-start}
use Rattle.gfx_planner.proofs.Lists.{all_both, all_front, all_behind}
use Rattle.gfx_planner.proofs.Effects.{all_steps-none, all_steps-one, after_messages-is}
use Rattle.gfx_planner.proofs.Held.{holds-nothing}
use Rattle.gfx_planner.proofs.Slots.{fits_cache-start}
use Rattle.gfx_planner.proofs.SurfaceSteps.{starts, ends}
use Rattle.gfx_planner.proofs.Whole.{gone}
use Rattle.gfx_planner.proofs.Steps.{step_fine, allowed_fine, messages-is, after_put-is}

-- messages, accepted one list after another
pub both : (state via last : State) (xs ys : List Pdu) → all_steps state xs ≡ Ok via → all_steps via ys ≡ Ok last → all_steps state (xs ++ ys) ≡ Ok last
both state via last xs ys first second = all_steps-append state xs ys ∙ and_then_at (all_steps state xs) via (λ next. all_steps next ys) first ∙ second

-- frames ------------------------------------------------------------------------------------------

-- what opening and ending a frame leave of the rest
pub record Passed (server after : Server) (pdus : List Pdu) : Type 0 where
  pub accepted : all_steps server.state pdus ≡ Ok after.state
  pub carried : AllByRecursion IsCarried pdus
  pub shown : after.state.shown ≡ server.state.shown
  pub cache : after.state.cache ≡ server.state.cache
  pub clear : after.state.clear ≡ server.state.clear
  pub plan : after.plan ≡ server.plan
  pub passes : after.passes ≡ server.passes
  pub records : after.state.records ≡ server.state.records

pub opens_frame : (server : Server) → server.frames + 1 < 2 ^ 32 → server.state.frame ≡ None
    → after_open server ≡ record server { state = record server.state { frame = Some (server.frames + 1) }; frames = server.frames + 1 }
opens_frame server few none =
    let accepts = starts server.state (server.frames + 1) few none in
    ap (λ (z : Server). record z { frames = server.frames + 1 })
    (after_messages-is server (frame_start server ∷ []) _ (all_steps-one server.state _ (frame_start server) accepts.stepped))

pub opened_fine : (server : Server) → server.frames + 1 < 2 ^ 32 → KeepsFrame server
    → Passed server (opened server) (opening server) × IsInFrame (opened server) × ((opened server).frames ≤ server.frames + 1)
unfolding opened opening
opened_fine server few (inl none) =
    let accepts = starts server.state (server.frames + 1) few none in
    let after = opens_frame server few none in
    let now : opened server ≡ after_open server = ap (λ o. cond (is_some o) server (after_open server)) none in
    let pdus : opening server ≡ frame_start server ∷ [] = ap (λ o. cond (is_some o) [] (frame_start server ∷ [])) none in
    let is = now ∙ after in (
      record {
        accepted = ap (all_steps server.state) pdus ∙ all_steps-one server.state _ (frame_start server) accepts.stepped ∙ ap (λ z. Ok z.state) (sym is);
        carried = subst (AllByRecursion IsCarried) (sym pdus) (accepts.carried, tt);
        shown = ap (λ z. z.state.shown) is;
        cache = ap (λ z. z.state.cache) is;
        clear = ap (λ z. z.state.clear) is;
        plan = ap (λ z. z.plan) is;
        passes = ap (λ z. z.passes) is;
        records = ap (λ z. z.state.records) is;
      },
      ap (λ z. z.state.frame) is ∙ ap (λ z. Some z.frames) (sym is),
      omega (arith, ap (λ z. z.frames) is),
    )
opened_fine server few (inr within) =
    let now : opened server ≡ server = ap (λ o. cond (is_some o) server (after_open server)) within in
    let pdus : opening server ≡ [] = ap (λ o. cond (is_some o) [] (frame_start server ∷ [])) within in (
      record {
        accepted = ap (all_steps server.state) pdus ∙ all_steps-none server.state ∙ ap (λ z. Ok z.state) (sym now);
        carried = subst (AllByRecursion IsCarried) (sym pdus) tt;
        shown = ap (λ z. z.state.shown) now;
        cache = ap (λ z. z.state.cache) now;
        clear = ap (λ z. z.state.clear) now;
        plan = ap (λ z. z.plan) now;
        passes = ap (λ z. z.passes) now;
        records = ap (λ z. z.state.records) now;
      },
      ap (λ z. z.state.frame) now ∙ within ∙ ap (λ z. Some z.frames) (sym now),
      omega (arith, ap (λ z. z.frames) now),
    )

pub closes_frame : (server : Server) → server.frames < 2 ^ 32 → IsInFrame server
    → after_close server ≡ record server { state = record server.state { frame = None; decoded = (server.state.decoded + 1) % 2 ^ 32 } }
closes_frame server few within =
    let accepts = ends server.state server.frames few within in
    after_messages-is server (frame_end server ∷ []) _ (all_steps-one server.state _ (frame_end server) accepts.stepped)

closed_fine : (server : Server) (step : Step) → server.frames < 2 ^ 32 → IsInFrame server
    → Passed server (closed server step) (closing server step) × KeepsFrame (closed server step) × ((closed server step).frames ≡ server.frames)
unfolding closed closing
closed_fine server Frame few within =
    let accepts = ends server.state server.frames few within in
    let is = closes_frame server few within in (
      record {
        accepted = all_steps-one server.state _ (frame_end server) accepts.stepped ∙ ap (λ z. Ok z.state) (sym is);
        carried = (accepts.carried, tt);
        shown = ap (λ z. z.state.shown) is;
        cache = ap (λ z. z.state.cache) is;
        clear = ap (λ z. z.state.clear) is;
        plan = ap (λ z. z.plan) is;
        passes = ap (λ z. z.passes) is;
        records = ap (λ z. z.state.records) is;
      },
      inl (ap (λ z. z.state.frame) is),
      ap (λ z. z.frames) is,
    )
closed_fine server step few within =
    (record { accepted = all_steps-none server.state; carried = tt; shown = refl; cache = refl; clear = refl; plan = refl; passes = refl; records = refl }, inr within, refl)

-- a step of a script --------------------------------------------------------------------------------

-- the server's end, in step with the script
pub record Stands (script : Script) (server : Server) (held : Held) (wanted : Wanted) : Type 0 where
  pub holds : Holds script held server
  pub agrees : Agree server wanted
  pub frame : KeepsFrame server

-- it goes on by a step
pub record Goes (script : Script) (server : Server) (one : KindedStep) (after : Held) (wanted : Wanted) : Type 0 where
  pub accepted : all_steps server.state (sends script server one) ≡ Ok (served script server one).state
  pub carried : AllByRecursion IsCarried (sends script server one)
  pub stands : Stands script (served script server one) after wanted
  pub frames : (served script server one).frames ≤ server.frames + 1

-- what a frame that is opened or ended leaves
holds_passed : (script : Script) (held : Held) (server after : Server) (pdus : List Pdu) → Passed server after pdus → Holds script held server → Holds script held after
holds_passed script held server after pdus passed holds = record {
  drawn = holds.drawn;
  same = holds.same;
  surfaces = subst (λ z. HoldsSurfaces held.sides held.cells z.surfaces) (sym passed.shown) holds.surfaces;
  bitmaps = subst (λ p. HoldsBitmaps held.stock p after.state.cache) (sym passed.plan) (subst (HoldsBitmaps held.stock server.plan) (sym passed.cache) holds.bitmaps);
  setting = holds.setting;
  tiles = subst (λ l. HoldsTiles script.setting l after.state.records after.state.shown.surfaces) (sym (ap (λ p. p.live) passed.passes))
      (subst (λ r. HoldsTiles script.setting server.passes.live r after.state.shown.surfaces) (sym passed.records)
      (subst (λ z. HoldsTiles script.setting server.passes.live server.state.records z.surfaces) (sym passed.shown) holds.tiles));
  number = subst (λ p. p.next < 2 ^ 32) (sym passed.passes) holds.number;
  rings = subst (λ z. AreRings z.rings) (sym passed.clear) holds.rings;
}

agree_passed : (server after : Server) (wanted : Wanted) (pdus : List Pdu) → Passed server after pdus → Agree server wanted → Agree after wanted
agree_passed server after wanted pdus passed agree = record {
  shown = passed.shown ∙ agree.shown;
  slots = ap (λ z. z.slots) passed.cache ∙ agree.slots;
  plan = passed.plan ∙ agree.plan;
  passes = passed.passes ∙ agree.passes;
}

pub goes : (script : Script) (server : Server) (held after : Held) (wanted : Wanted) (one : KindedStep) → server.frames + 1 < 2 ^ 32 → Stands script server held wanted → IsStep one.step → HasKind one
    → held_after held one.step ≡ Ok after → Goes script server one after (wanted_after script wanted one)
unfolding sends served
goes script server held after wanted one few stands numbers kind checked =
    let o = opened_fine server few stands.frame in
    let ready : Server = opened server in
    let there = holds_passed script held server ready (opening server) o.0 stands.holds in
    let fine = step_fine script ready one.kind held after one.step there numbers kind checked in
    let put : Server = after_put script ready one in
    let pdus : messages script ready one ≡ fine.into.pdus = messages-is script ready one fine.into fine.is in
    let put_is : put ≡ gone script ready one fine.next fine.into.plan = after_put-is script ready one fine.into fine.next fine.is fine.accepted in
    let within : IsInFrame put = ap (λ z. z.state.frame) put_is ∙ fine.frame ∙ o.1 ∙ ap (λ z. Some z.frames) (sym put_is) in
    let frames : put.frames ≡ ready.frames = ap (λ z. z.frames) put_is in
    let c = closed_fine put one.step (omega (arith, frames, o.2)) within in
    let agreed = fine.agrees wanted (agree_passed server ready wanted (opening server) o.0 stands.agrees) in
    let accepted = ap (all_steps ready.state) pdus ∙ fine.accepted ∙ ap (λ z. Ok z.state) (sym put_is) in
    record {
      accepted = both server.state ready.state _ (opening server) _ o.0.accepted (both ready.state put.state _ (messages script ready one) (closing put one.step) accepted c.0.accepted);
      carried = all_both IsCarried (opening server) _ o.0.carried
          (all_both IsCarried (messages script ready one) (closing put one.step) (subst (AllByRecursion IsCarried) (sym pdus) fine.carried) c.0.carried);
      stands = record {
        holds = holds_passed script after put _ (closing put one.step) c.0 (subst (Holds script after) (sym put_is) fine.holds);
        agrees = agree_passed put _ _ (closing put one.step) c.0 (subst (λ z. Agree z (wanted_after script wanted one)) (sym put_is) agreed);
        frame = c.1;
      };
      frames = omega (arith, c.2, frames, o.2);
    }

-- steps one after another ---------------------------------------------------------------------------

-- the steps without their kinds
abbrev pub bare : List KindedStep → List Step
bare steps = map (λ (one : KindedStep). one.step) steps

-- the stream of steps is accepted, and the server's end stays in step with the script
pub record Streams (script : Script) (server : Server) (steps : List KindedStep) (after : Held) (wanted : Wanted) : Type 0 where
  pub accepted : all_steps server.state (stream script server steps) ≡ Ok (served_all script server steps).state
  pub carried : AllByRecursion IsCarried (stream script server steps)
  pub stands : Stands script (served_all script server steps) after wanted
  pub frames : (served_all script server steps).frames ≤ server.frames + length steps

pub stream-nil : (script : Script) (server : Server) → stream script server [] ≡ []
unfolding stream
stream-nil script server = refl

pub stream-cons : (script : Script) (server : Server) (one : KindedStep) (steps : List KindedStep) → stream script server (one ∷ steps) ≡ sends script server one ++ stream script (served script server one) steps
unfolding stream
stream-cons script server one steps = refl

pub held_through-nil : (held after : Held) → held_through held [] ≡ Ok after → held ≡ after
unfolding held_through
held_through-nil held after checked = cc

pub held_through-cons : (held after : Held) (step : Step) (steps : List Step) → held_through held (step ∷ steps) ≡ Ok after
    → (next : Held) × (held_after held step ≡ Ok next) × (held_through next steps ≡ Ok after)
unfolding held_through
held_through-cons held after step steps checked = and_then_ok (held_after held step) (λ next. held_through next steps) after checked

pub streams : (script : Script) (server : Server) (held after : Held) (wanted : Wanted) (steps : List KindedStep) → server.frames + length steps < 2 ^ 32 → Stands script server held wanted
    → AllByRecursion IsStep (bare steps) → AllByRecursion HasKind steps → held_through held (bare steps) ≡ Ok after → Streams script server steps after (fold (wanted_after script) wanted steps)
streams script server held after wanted [] few stands numbers kinds checked = record {
  accepted = ap (all_steps server.state) (stream-nil script server) ∙ all_steps-none server.state;
  carried = subst (AllByRecursion IsCarried) (sym (stream-nil script server)) tt;
  stands = subst (λ h. Stands script server h wanted) (held_through-nil held after checked) stands;
  frames = omega arith;
}
streams script server held after wanted (one ∷ steps) few stands numbers kinds checked =
    let c = held_through-cons held after one.step (bare steps) checked in
    let first = goes script server held c.0 wanted one (omega arith) stands numbers.0 kinds.0 c.1 in
    let next : Server = served script server one in
    let others = streams script next c.0 after (wanted_after script wanted one) steps (omega (arith, first.frames)) first.stands numbers.1 kinds.1 c.2 in
    record {
      accepted = ap (all_steps server.state) (stream-cons script server one steps) ∙ both server.state next.state _ (sends script server one) (stream script next steps) first.accepted others.accepted;
      carried = subst (AllByRecursion IsCarried) (sym (stream-cons script server one steps)) (all_both IsCarried (sends script server one) (stream script next steps) first.carried others.carried);
      stands = others.stands;
      frames = omega (arith, first.frames, others.frames);
    }

-- in two parts
pub stream-append : (script : Script) (server : Server) (xs ys : List KindedStep) → stream script server (xs ++ ys) ≡ stream script server xs ++ stream script (served_all script server xs) ys
stream-append script server [] ys = ap (λ z. z ++ stream script server ys) (sym (stream-nil script server))
stream-append script server (x ∷ xs) ys =
    stream-cons script server x (xs ++ ys) ∙ ap (λ z. sends script server x ++ z) (stream-append script (served script server x) xs ys)
    ∙ sym (append_assoc (sends script server x) (stream script (served script server x) xs) _)
    ∙ ap (λ z. z ++ stream script (served_all script (served script server x) xs) ys) (sym (stream-cons script server x xs))

-- a front of checked steps is checked
pub held_through-append : (held after : Held) (xs ys : List Step) → held_through held (xs ++ ys) ≡ Ok after
    → (next : Held) × (held_through held xs ≡ Ok next) × (held_through next ys ≡ Ok after)
unfolding held_through and_then
held_through-append held after [] ys checked = (held, refl, checked)
held_through-append held after (x ∷ xs) ys checked =
    let c = held_through-cons held after x (xs ++ ys) checked in
    let r = held_through-append c.0 after xs ys c.2 in
    (r.0, and_then_at (held_after held x) c.0 (λ next. held_through next xs) c.1 ∙ r.1, r.2)

-- a front has no more steps than the whole
front_within : (front rest : List KindedStep) (steps : List Step) → bare (front ++ rest) ≡ steps → length front ≤ length steps
front_within front rest steps same =
    let all : length (front ++ rest) ≡ length steps = sym (length-map (front ++ rest) (λ (one : KindedStep). one.step)) ∙ ap length same in
    omega (arith, length-append front rest, all)

-- what is held before the first step
abbrev pub first_held : Script → Held
first_held script = held_first (sides_of_all script.pictures) script.small

pub stands_at_start : (script : Script) → IsAccepted script → Stands script (at_start script.small) (first_held script) (nothing_wanted script.small)
stands_at_start script good = record {
  holds = record {
    drawn = good.pictures;
    same = refl;
    surfaces = holds-nothing;
    bitmaps = record { same = refl; limits = refl; fits_cache = fits_cache-start script.small; sides_fit = tt };
    setting = good.setting;
    tiles = tiles-at-start script.setting;
    number = omega arith;
    rings = rings_fresh;
  };
  agrees = record { shown = refl; slots = refl; plan = refl; passes = refl };
  frame = inl refl;
}

-- the checks of steps from the first one
pub record AreChecked (script : Script) (steps : List KindedStep) (after : Held) : Type 0 where
  pub few : (at_start script.small).frames + length steps < 2 ^ 32
  pub numbers : AllByRecursion IsStep (bare steps)
  pub kinds : AllByRecursion HasKind steps
  pub through : held_through (first_held script) (bare steps) ≡ Ok after

-- what holds after a front of an accepted script
pub record Along (script : Script) (front rest : List KindedStep) : Type 0 where
  pub held : Held
  pub front_checked : AreChecked script front held
  pub streams : Streams script (at_start script.small) front held (want script front)
  pub numbers : AllByRecursion IsStep (bare rest)
  pub kinds : AllByRecursion HasKind rest
  pub last : Held
  pub checked : held_through held (bare rest) ≡ Ok last

pub along : (script : Script) (front rest : List KindedStep) → IsAccepted script → Fits (front ++ rest) script.steps → Along script front rest
along script front rest good fits =
    let cut : script.steps ≡ bare front ++ bare rest = sym fits.same ∙ map-append (λ (one : KindedStep). one.step) front rest in
    let numbers = subst (AllByRecursion IsStep) cut good.numbers in
    let first = first_held script in
    let checked = ap (held_through first) (sym cut) ∙ good.checked in
    let c = held_through-append first good.held (bare front) (bare rest) checked in
    let many : length front ≤ length script.steps = front_within front rest script.steps fits.same in
    let front_checked : AreChecked script front c.0 = record {
      few = omega (arith, good.few, many);
      numbers = all_front IsStep (bare front) (bare rest) numbers;
      kinds = all_front HasKind front rest fits.kinds;
      through = c.1;
    } in
    record {
      held = c.0;
      front_checked = front_checked;
      streams = streams script (at_start script.small) first c.0 (nothing_wanted script.small) front front_checked.few (stands_at_start script good) front_checked.numbers front_checked.kinds front_checked.through;
      numbers = all_behind IsStep (bare front) (bare rest) numbers;
      kinds = all_behind HasKind front rest fits.kinds;
      last = good.held;
      checked = c.2;
    }

-- the promise
pub shown : ScriptsAreShown
shown script front rest good fits =
    let a = along script front rest good fits in
    let s = a.streams in
    let start = at_start script.small in
    let ran = sent_wider start.state (end_after script front).state fresh 0 (stream script start front) s.carried s.accepted (started_fresh script.small) in
    let tiles : HoldsLive (want script front).passes.live (end_after script front).state.records =
    subst (λ (p : Passes). HoldsLive p.live (end_after script front).state.records) s.stands.agrees.passes (has-records script.setting _ _ _ s.stands.holds.tiles) in (
      record {
        applied = count_after 0 (stream script start front);
        client = ran.0;
        run = ran.1;
        same = Wider_same _ ran.0 ran.2;
        shown = sym ran.2.shown ∙ s.stands.agrees.shown;
        agrees = s.stands.agrees;
        tiles = tiles;
        client_tiles = λ key send found. ap (λ (records : Records). get records key) (sym ran.2.records) ∙ tiles key send found;
      },
      ap sent (stream-append script start front rest) ∙ sent-append (stream script start front) (stream script (end_after script front) rest),
    )

-- a step that may be put still may once its frame is open
pub allowed_opened : (script : Script) (server : Server) (one : KindedStep) → server.frames + 1 < 2 ^ 32 → KeepsFrame server → IsAllowed script server one → IsAllowed script (opened server) one
allowed_opened script server one few keeps allowed =
    let o = opened_fine server few keeps in
    record {
      numbers = allowed.numbers;
      kind = allowed.kind;
      held = allowed.held;
      holds = holds_passed script allowed.held server (opened server) (opening server) o.0 allowed.holds;
      after = allowed.after;
      checked = allowed.checked;
    }

-- and leaves the frame open
pub put_in_frame : (script : Script) (server : Server) (one : KindedStep) → IsInFrame server → IsAllowed script server one → IsInFrame (after_put script server one)
put_in_frame script server one within allowed =
    let fine = allowed_fine script server one allowed in
    let is = after_put-is script server one fine.into fine.next fine.is fine.accepted in
    ap (λ z. z.state.frame) is ∙ fine.frame ∙ within ∙ ap (λ z. Some z.frames) (sym is)
