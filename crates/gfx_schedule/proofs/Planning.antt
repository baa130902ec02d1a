-- The server's end and its script: what is queued, and what is sent.
use Rattle.std.proofs.Common.{◌≡◌, ℕ, ◌+◌, ◌≤◌, ◌<◌, ◌^◌, ◌%◌, false, List, [], ◌∷◌, ◌++◌, length, fold, None, Ok, refl, sym, ap, ◌∙◌, subst, append_assoc, arith, length-append}
use Rattle.std.specs.List.{AllByRecursion}
use Rattle.std.proofs.lemmas.List.{map-append, length-map}
use Rattle.std.proofs.lemmas.List.Sums.{fold-append}
use Rattle.gfx_base.specs.Results.{and_then, check}
use Rattle.gfx_base.proofs.ResultLemmas.{and_then_at, and_then_ok}
use Rattle.gfx_base.specs.declared.refusal.Refusal.TheVariants.{FrameMismatch}
use Rattle.gfx_pdu.specs.declared.pdu.Pdu.{Pdu}
use Rattle.gfx_pdu.specs.declared.pdu.Pdu.TheVariants.{EndFrame}
use Rattle.gfx_script.specs.Checks.{Held, held_after, held_through}
use Rattle.gfx_script.specs.Kinds.{KindedStep, HasKind, Fits}
use Rattle.gfx_script.specs.Script.{IsStep, IsAcceptedFrom}
use Rattle.gfx_script.specs.Scripted.{Script}
use Rattle.gfx_script.specs.declared.step.Step.{Step}
use Rattle.gfx_state.specs.History.{effects, spelled, ends_frame}
use Rattle.gfx_state.specs.Same.{StepsAlike}
use Rattle.gfx_state.specs.Sending.{all_steps}
use Rattle.gfx_state.specs.State.{State}
use Rattle.gfx_state.specs.Step.{step, frame_ended, is_open}
use Rattle.gfx_state.proofs.Sent.{all_steps-append, all_steps-cons, all_steps-nil}
use Rattle.gfx_state.proofs.Wider.{all_steps_alike}
use Rattle.gfx_planner.specs.Wanted.{Wanted}
use Rattle.gfx_planner.specs.Want.{wanted_after, want_from}
use Rattle.gfx_planner.specs.Server.{Server}
use Rattle.gfx_planner.specs.Wire.{frame_start}
use Rattle.gfx_planner.specs.After.{after_open}
use Rattle.gfx_planner.specs.Joined.{all_messages, after_all, frame_of, after_frame}
use Rattle.gfx_planner.specs.JoinedShown.{JoinsFrame}
use Rattle.gfx_planner.proofs.Joined.{joined_frames_are_shown}
use Rattle.gfx_planner.proofs.Lists.{all_front, all_behind}
use Rattle.gfx_planner.proofs.Streams.{bare, held_through-append, held_through-cons}
use Rattle.gfx_schedule.specs.Frames.{frames_of}
use Rattle.gfx_schedule.specs.Plan.{InPlanFrom}
use Rattle.gfx_schedule.specs.Starts.{Start}
use Rattle.gfx_schedule.specs.Leaving.{AreAmong, steps_of}
use Rattle.gfx_schedule.specs.ServerEnd.{ScheduledEnd, first_frame, behind_frame, numbered, queued, due, with_sent}
use Rattle.gfx_schedule.proofs.Flights.{frames_both, frames_inside, frames_end, Flight, Extends}
use Rattle.gfx_schedule.proofs.Items.{frame_parts, numbered-append, steps_of-numbered}
use Rattle.gfx_schedule.proofs.LeavingItems.{all_among, only_leaves}
use Rattle.gfx_schedule.proofs.LeavingSteps.{is_allowed, not_seen}

-- a frame of the script is queued
pub queues : (start : Start) (script : Script) (kinded : List KindedStep) (end : ScheduledEnd) (gone waiting : List KindedStep) → InPlanFrom start script kinded end gone waiting → InPlanFrom start script kinded (queued end) gone (waiting ++ first_frame end.left)
unfolding queued
queues start script kinded end gone waiting plan =
    let first : List KindedStep = first_frame end.left in
    let behind : List KindedStep = behind_frame end.left in
    let number : length gone + 1 + length waiting ≡ end.last + 1 = omega (arith, plan.last) in
    record {
      cut = plan.cut ∙ ap (λ z. gone ++ (waiting ++ z)) (sym (frame_parts end.left)) ∙ ap (λ z. gone ++ z) (sym (append_assoc waiting first behind));
      last = omega (arith, plan.last, length-append waiting first);
      pending =
          ap (λ z. z ++ numbered (end.last + 1) first) plan.pending ∙ ap (λ n. numbered (length gone + 1) waiting ++ numbered n first) (sym number)
          ∙ sym (numbered-append (length gone + 1) waiting first);
      held = plan.held;
      checked = plan.checked;
      holds = plan.holds;
      agrees = plan.agrees;
      frame = plan.frame;
      frames = plan.frames;
    }

-- what the script says of the steps that wait -----------------------------------------------------------------

pub record Ahead (start : Start) (script : Script) (kinded : List KindedStep) (end : ScheduledEnd) (gone waiting : List KindedStep) (held : Held) : Type 0 where
  pub after : Held
  pub checked : held_through held (bare (due script end)) ≡ Ok after
  pub whole : held_through start.held (bare (gone ++ waiting)) ≡ Ok after
  pub numbers : AllByRecursion IsStep (bare (due script end))
  pub kinds : AllByRecursion HasKind (due script end)
  pub few : length gone + length waiting ≤ length script.steps
  pub wanted : fold (wanted_after script) (want_from script start.wanted gone) (due script end) ≡ want_from script start.wanted (gone ++ waiting)

-- what holds of steps holds of them as they are
of_bare : (P : Step → Type 0) (steps : List KindedStep) → AllByRecursion P (bare steps) → AllByRecursion (λ one. P one.step) steps
of_bare P [] all = tt
of_bare P (one ∷ steps) all = (all.0, of_bare P steps all.1)

to_bare : (P : Step → Type 0) (steps : List KindedStep) → AllByRecursion (λ one. P one.step) steps → AllByRecursion P (bare steps)
to_bare P [] all = tt
to_bare P (one ∷ steps) all = (all.0, to_bare P steps all.1)

held_both : (held via after : Held) (xs ys : List Step) → held_through held xs ≡ Ok via → held_through via ys ≡ Ok after → held_through held (xs ++ ys) ≡ Ok after
unfolding held_through and_then
held_both held via after [] ys first second = ap (λ h. held_through h ys) (let same : held ≡ via = cc in same) ∙ second
held_both held via after (x ∷ xs) ys first second =
    let c = held_through-cons held via x xs first in
    and_then_at (held_after held x) c.0 (λ next. held_through next (xs ++ ys)) c.1 ∙ held_both c.0 via after xs ys c.2 second

pub ahead : (start : Start) (script : Script) (kinded : List KindedStep) (end : ScheduledEnd) (gone waiting : List KindedStep) → IsAcceptedFrom start.held script → Fits kinded script.steps → (plan : InPlanFrom start script kinded end gone waiting) → Ahead start script kinded end gone waiting plan.held
ahead start script kinded end gone waiting good fits plan =
    let all : bare (gone ++ (waiting ++ end.left)) ≡ script.steps = ap bare (sym plan.cut) ∙ fits.same in
    let is : steps_of script end.window.pending ≡ waiting = ap (steps_of script) plan.pending ∙ steps_of-numbered script gone waiting end.left all in
    let among = (only_leaves script end.window.pending).1 in
    let cut : script.steps ≡ bare gone ++ (bare waiting ++ bare end.left) =
    sym all ∙ map-append (λ (z : KindedStep). z.step) gone (waiting ++ end.left) ∙ ap (λ z. bare gone ++ z) (map-append (λ (z : KindedStep). z.step) waiting end.left) in
    let numbers = all_front IsStep (bare waiting) (bare end.left) (all_behind IsStep (bare gone) _ (subst (AllByRecursion IsStep) cut good.numbers)) in
    let kinds = all_front HasKind waiting end.left (all_behind HasKind gone _ (subst (AllByRecursion HasKind) plan.cut fits.kinds)) in
    let first = held_through-append start.held good.held (bare gone) (bare waiting ++ bare end.left) (ap (held_through start.held) (sym cut) ∙ good.checked) in
    let same : first.0 ≡ plan.held = (let here = first.1 in let there = plan.checked in cc) in
    let second = held_through-append plan.held good.held (bare waiting) (bare end.left) (ap (λ h. held_through h (bare waiting ++ bare end.left)) (sym same) ∙ first.2) in
    let through : held_through plan.held (bare (steps_of script end.window.pending)) ≡ Ok second.0 = ap (λ z. held_through plan.held (bare z)) is ∙ second.1 in
    let count : length script.steps ≡ length gone + (length waiting + length end.left) =
    ap length (sym all) ∙ length-map (gone ++ (waiting ++ end.left)) (λ (z : KindedStep). z.step) ∙ length-append gone (waiting ++ end.left) ∙ ap (λ n. length gone + n) (length-append waiting end.left) in
    record {
      after = second.0;
      checked = is_allowed script plan.held second.0 end.window.pending through;
      whole = ap (held_through start.held) (map-append (λ (z : KindedStep). z.step) gone waiting) ∙ held_both start.held plan.held second.0 (bare gone) (bare waiting) plan.checked second.1;
      numbers = to_bare IsStep (due script end) (all_among (λ one. IsStep one.step) (due script end) waiting (subst (AreAmong (due script end)) is among) (of_bare IsStep waiting numbers));
      kinds = all_among HasKind (due script end) waiting (subst (AreAmong (due script end)) is among) kinds;
      few = omega (arith, count);
      wanted = not_seen script (want_from script start.wanted gone) end.window.pending ∙ ap (fold (wanted_after script) (want_from script start.wanted gone)) is ∙ sym (fold-append (wanted_after script) start.wanted gone waiting);
    }

-- a frame goes ------------------------------------------------------------------------------------------------

-- the frame that goes, of all that waits
pub joins : (start : Start) (script : Script) (kinded : List KindedStep) (end : ScheduledEnd) (gone waiting : List KindedStep) → IsAcceptedFrom start.held script → Fits kinded script.steps → (plan : InPlanFrom start script kinded end gone waiting)
    → (ahead : Ahead start script kinded end gone waiting plan.held) → JoinsFrame script end.server (due script end) ahead.after (want_from script start.wanted (gone ++ waiting))
joins start script kinded end gone waiting good fits plan ahead =
    subst (JoinsFrame script end.server (due script end) ahead.after) ahead.wanted
    (joined_frames_are_shown script end.server (due script end) plan.held ahead.after (want_from script start.wanted gone) (omega (arith, plan.frames, ahead.few, good.few)) plan.frame plan.holds plan.agrees ahead.numbers ahead.kinds ahead.checked)

-- at least one step waited
pub goes : (start : Start) (script : Script) (kinded : List KindedStep) (end : ScheduledEnd) (gone waiting : List KindedStep) (plan : InPlanFrom start script kinded end gone waiting) (ahead : Ahead start script kinded end gone waiting plan.held) → 0 < length waiting
    → JoinsFrame script end.server (due script end) ahead.after (want_from script start.wanted (gone ++ waiting)) → InPlanFrom start script kinded (with_sent end (after_frame script end.server (due script end))) (gone ++ waiting) []
unfolding with_sent
goes start script kinded end gone waiting plan ahead some joins = record {
  cut = plan.cut ∙ sym (append_assoc gone waiting end.left);
  last = omega (arith, plan.last, length-append gone waiting);
  pending = refl;
  held = ahead.after;
  checked = ahead.whole;
  holds = joins.holds;
  agrees = joins.agrees;
  frame = joins.frame;
  frames = omega (arith, joins.frames, plan.frames, length-append gone waiting);
}

-- what that frame comes to at a client ----------------------------------------------------------------------

-- the count of frames is a word
step_end : (state next : State) (frame : ℕ) → step state (EndFrame frame) ≡ Ok next → next.decoded < 2 ^ 32
unfolding step frame_ended
step_end state next frame e =
    let s = and_then_ok (check FrameMismatch (is_open state.frame frame)) (λ ended. Ok (record state { frame = None; decoded = (state.decoded + 1) % 2 ^ 32 })) next e in
    let is : (state.decoded + 1) % 2 ^ 32 ≡ next.decoded = (let same = s.2 in cc) in
    omega (arith, is)

pub record Ending (state last : State) (pdus : List Pdu) (frame : ℕ) : Type 0 where
  pub frames : frames_of (effects state (spelled pdus)) ≡ (frame, last) ∷ []
  pub decoded : last.decoded < 2 ^ 32

pub ending : (state last : State) (pdus : List Pdu) (frame : ℕ) → AllByRecursion (λ pdu. ends_frame pdu ≡ false) pdus → all_steps state (pdus ++ EndFrame frame ∷ []) ≡ Ok last → Ending state last (pdus ++ EndFrame frame ∷ []) frame
unfolding all_steps
ending state last pdus frame inside accepted =
    let cut = and_then_ok (all_steps state pdus) (λ next. all_steps next (EndFrame frame ∷ [])) last (sym (all_steps-append state pdus (EndFrame frame ∷ [])) ∙ accepted) in
    let s = all_steps-cons cut.0 last (EndFrame frame) [] cut.2 in
    let same = all_steps-nil s.0 last s.2 in
    record {
      frames = frames_both state cut.0 pdus (EndFrame frame ∷ []) cut.1 ∙ ap (λ z. z ++ frames_of (effects cut.0 (spelled (EndFrame frame ∷ [])))) (frames_inside state cut.0 pdus inside cut.1) ∙ frames_end cut.0 last frame cut.2;
      decoded = subst (λ z. z.decoded < 2 ^ 32) same (step_end cut.0 s.0 frame s.1);
    }

-- the frame that is in flight then
abbrev pub flight_of : Server → ℕ → State → Flight
flight_of server step client = record { sent_as = record { frame = server.frames; step = step }; server = server.state; client = client }

pub extends : (R : State → State → Type 0) → StepsAlike R → (script : Script) (server : Server) (steps : List KindedStep) (after : Held) (wanted : Wanted) (number : ℕ) (client : State) → JoinsFrame script server steps after wanted → R server.state client
    → Extends R client (after_frame script server steps).state (frame_of script server steps) (λ last. flight_of (after_frame script server steps) number last ∷ [])
unfolding frame_of
extends R alike script server steps after wanted number client joins related =
    let went = all_steps_alike R alike server.state (after_frame script server steps).state client (frame_of script server steps) joins.accepted related in
    let ready : Server = after_open server in
    let body : List Pdu = frame_start server ∷ all_messages script ready steps in
    let end = ending client went.0 body (after_all script ready steps).frames (refl, joins.inside) went.1 in
    let number_is : (after_all script ready steps).frames ≡ (after_frame script server steps).frames = joins.ends ∙ sym joins.frames in
    record { last = went.0; accepted = went.1; related = went.2; frames = end.frames ∙ ap (λ n. (n, went.0) ∷ []) number_is }

pub decoded_fits : (script : Script) (server : Server) (steps : List KindedStep) (after : Held) (wanted : Wanted) → JoinsFrame script server steps after wanted → (after_frame script server steps).state.decoded < 2 ^ 32
unfolding frame_of
decoded_fits script server steps after wanted joins =
    let ready : Server = after_open server in
    (ending server.state (after_frame script server steps).state (frame_start server ∷ all_messages script ready steps) (after_all script ready steps).frames (refl, joins.inside) joins.accepted).decoded
