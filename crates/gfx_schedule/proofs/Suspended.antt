-- A client that suspends its acknowledgements in the midst of a session is refused nothing.
use Rattle.std.proofs.Common.{◌≡◌, ◌∙◌, ℕ, ◌+◌, ◌-◌, ◌<◌, ◌≤◌, ◌^◌, ◌==◌, Bool, true, false, cond, List, [], ◌∷◌, ◌++◌, fold, length, map, take, drop, Option, Some, None, Result, Ok, Err, refl, sym, ap, subst, arith, inl, inr, length-append, eq-eqb}
use Rattle.std.specs.Prelude.{nat_lt}
use Rattle.std.specs.List.{AllByRecursion, last_or}
use Rattle.std.proofs.lemmas.Bool.{cases_Bool, le-leb, ltb-true}
use Rattle.std.proofs.lemmas.List.{append-nil}
use Rattle.gfx_caps.proofs.SizeLaws.{ack_fits}
use Rattle.gfx_caps.specs.Spelling.{spelling}
use Rattle.gfx_caps.specs.declared.message.ClientPdu.{ClientPdu}
use Rattle.gfx_caps.specs.declared.message.ClientPdu.TheVariants.{Ack}
use Rattle.gfx_caps.specs.declared.message.TheConstants.{SUSPENDS}
use Rattle.gfx_client.specs.Replies.{alone}
use Rattle.gfx_planner.specs.Joined.{after_frame}
use Rattle.gfx_planner.specs.Server.{Server}
use Rattle.gfx_script.specs.Kinds.{KindedStep, Fits}
use Rattle.gfx_script.specs.Script.{IsAcceptedFrom}
use Rattle.gfx_script.specs.Scripted.{Script}
use Rattle.gfx_script.specs.declared.turn.Turn.{Turn}
use Rattle.gfx_segment.specs.Framing.{Whole, Short, front}
use Rattle.gfx_state.specs.Alike.{Alike}
use Rattle.gfx_window.specs.declared.window.AckUnknown.{AckUnknown}
use Rattle.gfx_window.specs.declared.window.Sent.{Sent}
use Rattle.gfx_window.specs.Window.{Window, watched, unwatched_with, left_flying, acknowledged, acknowledged_late}
use Rattle.gfx_window.specs.Window.{sent as with_frame}
use Rattle.gfx_schedule.specs.Hearing.{Heard, listening, acknowledges, told, hears}
use Rattle.gfx_schedule.specs.Plan.{InPlanFrom}
use Rattle.gfx_schedule.specs.ServerEnd.{ScheduledEnd, queued, can_send, due, sends, with_sent, first_frame}
use Rattle.gfx_schedule.specs.Starts.{MayBegin, Start}
use Rattle.gfx_schedule.specs.Suspending.{Happening, Serves, Answers, Suspending, answers, happens_then, suspending, SuspendingIsTaken}
use Rattle.gfx_schedule.specs.Words.{said, IsWord, holding}
use Rattle.gfx_schedule.specs.World.{World, world_from}
use Rattle.gfx_schedule.proofs.Numbered.{IsUpTo, upto-more, upto-few, upto-last}
use Rattle.gfx_schedule.proofs.Planning.{queues, ahead, joins, goes}
use Rattle.gfx_schedule.proofs.Items.{length-numbered}
use Rattle.gfx_schedule.proofs.Turns.{Keeps, Upward, some_waits, sends_yes, sends_no, keeps_from, begins_alike}
use Rattle.gfx_schedule.proofs.Unwatched.{ack_read, late_found, one_word}

-- the frames that the client has not answered are in flight, or they are unwatched
pub data Unanswered (window : Window) (answered frames : ℕ) : Type 0 where
  InFlight : window.suspended ≡ false → answered + length window.flying ≡ frames → IsUpTo frames window.flying → Unanswered window answered frames
  Unseen : window.suspended ≡ true → window.flying ≡ [] → (answered < frames → window.unwatched ≡ Some frames) → Unanswered window answered frames

pub record Bears (start : Start) (script : Script) (kinded : List KindedStep) (at : Suspending) : Type 0 where
  pub gone : List KindedStep
  pub waiting : List KindedStep
  pub plan : InPlanFrom start script kinded at.end gone waiting
  pub goes_on : at.end.stopped ≡ None
  pub between : at.end.heard ≡ []
  pub within : at.answered ≤ at.end.server.frames
  pub unanswered : Unanswered at.end.window at.answered at.end.server.frames

-- a turn -------------------------------------------------------------------------------------------------------------

-- a frame goes
flies_or_not : (window : Window) (answered frames frame step : ℕ) → frame ≡ frames + 1 → answered ≤ frames → Unanswered window answered frames → Unanswered (with_frame window frame step) answered frame
flies_or_not window answered frames frame step is within (InFlight watches count numbered) =
    let flight : Sent = record { frame = frame; step = step } in
    let all : window.flying ++ watched window.suspended (flight ∷ []) ≡ window.flying ++ flight ∷ [] = ap (λ b. window.flying ++ watched b (flight ∷ [])) watches in
    InFlight watches (omega (arith, is, count, ap length all, length-append window.flying (flight ∷ [])))
    (subst (λ n. IsUpTo n (window.flying ++ watched window.suspended (flight ∷ []))) (sym is) (subst (IsUpTo (frames + 1)) (sym all) (upto-more frames window.flying flight is numbered)))
flies_or_not window answered frames frame step is within (Unseen suspended none unwatched) =
    let flight : Sent = record { frame = frame; step = step } in
    Unseen suspended ((λ i. none i ++ watched (suspended i) (flight ∷ []))) (λ _. ap (λ b. unwatched_with b window.unwatched frame) suspended)

queues_so : (start : Start) (script : Script) (kinded : List KindedStep) (at : Suspending) → Bears start script kinded at → Bears start script kinded (record at { end = queued at.end })
unfolding queued
queues_so start script kinded at b = record {
  gone = b.gone;
  waiting = b.waiting ++ first_frame at.end.left;
  plan = queues start script kinded at.end b.gone b.waiting b.plan;
  goes_on = b.goes_on;
  between = b.between;
  within = b.within;
  unanswered = by b.unanswered;
}
  where
    by : Unanswered at.end.window at.answered at.end.server.frames → Unanswered (queued at.end).window at.answered at.end.server.frames
    by (InFlight watches count numbered) = InFlight watches count numbered
    by (Unseen suspended none unwatched) = Unseen suspended none unwatched

sends_so : (start : Start) (script : Script) (kinded : List KindedStep) (at : Suspending) → IsAcceptedFrom start.held script → Fits kinded script.steps → can_send at.end ≡ true → Bears start script kinded at
    → Bears start script kinded (record at { end = with_sent at.end (after_frame script at.end.server (due script at.end)) })
unfolding with_sent
sends_so start script kinded at good fits can b =
    let next = ahead start script kinded at.end b.gone b.waiting good fits b.plan in
    let frame = joins start script kinded at.end b.gone b.waiting good fits b.plan next in
    let some : 0 < length b.waiting = omega (arith, some_waits at.end can, ap length b.plan.pending, length-numbered (length b.gone + 1) b.waiting) in
    record {
      gone = b.gone ++ b.waiting;
      waiting = [];
      plan = goes start script kinded at.end b.gone b.waiting b.plan next some frame;
      goes_on = b.goes_on;
      between = b.between;
      within = omega (arith, b.within, frame.frames);
      unanswered = flies_or_not at.end.window at.answered at.end.server.frames (after_frame script at.end.server (due script at.end)).frames at.end.last frame.frames b.within b.unanswered;
    }

serves_so : (start : Start) (script : Script) (kinded : List KindedStep) (at : Suspending) → IsAcceptedFrom start.held script → Fits kinded script.steps → Bears start script kinded at
    → Bears start script kinded (record at { end = sends script (queued at.end) })
serves_so start script kinded at good fits b =
    let ready : Suspending = record at { end = queued at.end } in
    let first = queues_so start script kinded at b in
    elim (cases_Bool (can_send ready.end)) [
      | inl can ↦ subst (λ z. Bears start script kinded (record at { end = z })) (sym (sends_yes script ready.end can).0) (sends_so start script kinded ready good fits can first)
      | inr can ↦ subst (λ z. Bears start script kinded (record at { end = z })) (sym (sends_no script ready.end can).0) first
    ]

-- the next frame is acknowledged ---------------------------------------------------------------------------------------

-- what is found of it
record IsNext (window : Window) (answered frames : ℕ) : Type 0 where
  step : Option ℕ
  after : Window
  is : acknowledged window window.flying SUSPENDS (answered + 1) ≡ Ok (step, after)
  pending : after.pending ≡ window.pending
  unanswered : Unanswered after (answered + 1) frames

-- behind the oldest in flight
others_unseen : (window : Window) (answered frames : ℕ) (others : List Sent) → answered + 1 + length others ≡ frames → IsUpTo frames others → Unanswered (left_flying true window others) (answered + 1) frames
others_unseen window answered frames [] count numbered = Unseen refl refl (λ fewer. absurd (omega (arith, count, fewer)))
others_unseen window answered frames (first ∷ others) count numbered = Unseen refl refl (λ fewer. upto-last window.unwatched frames first others numbered)

next_flying : (window : Window) (answered frames : ℕ) (flying : List Sent) → window.flying ≡ flying → answered < frames → answered + length flying ≡ frames → IsUpTo frames flying → IsNext window answered frames
unfolding acknowledged
next_flying window answered frames [] is fewer count numbered = absurd (omega (arith, fewer, count))
next_flying window answered frames (first ∷ others) is fewer count numbered =
    let named : first.frame ≡ answered + 1 = omega (arith, count, numbered.0) in
    record {
      step = Some first.step;
      after = left_flying true window others;
      is =
          ap (λ z. acknowledged window z SUSPENDS (answered + 1)) is
          ∙ ap (λ b. cond b (Ok (Some first.step, left_flying true window others)) (acknowledged_late window (Some first.frame) SUSPENDS (answered + 1))) (eq-eqb first.frame (answered + 1) named);
      pending = refl;
      unanswered = others_unseen window answered frames others (omega (arith, count)) numbered.2;
    }

next_found : (window : Window) (answered frames : ℕ) → answered < frames → Unanswered window answered frames → IsNext window answered frames
unfolding acknowledged
next_found window answered frames fewer (InFlight watches count numbered) = next_flying window answered frames window.flying refl fewer count numbered
next_found window answered frames fewer (Unseen suspended none unwatched) =
    let last : window.unwatched ≡ Some frames = unwatched fewer in
    record {
      step = None;
      after = left_flying true window window.flying;
      is = ap (λ z. acknowledged window z SUSPENDS (answered + 1)) none ∙ late_found window None frames SUSPENDS (answered + 1) last (omega (arith, fewer));
      pending = refl;
      unanswered = Unseen refl refl (λ _. ap (λ (z : List Sent). last_or window.unwatched (map (λ (one : Sent). one.frame) z)) none ∙ last);
    }

-- so the server's end takes it
acked_so : (start : Start) (script : Script) (kinded : List KindedStep) (at : Suspending) (heard : Heard) (frame : ℕ) (step : Option ℕ) (after : Window) → Bears start script kinded at → heard ≡ holding (listening at.end) [] → frame ≤ at.end.server.frames
    → after.pending ≡ at.end.window.pending → Unanswered after frame at.end.server.frames → Bears start script kinded (record { end = (acknowledges heard frame (Ok (step, after))).end; answered = frame })
unfolding acknowledges
acked_so start script kinded at heard frame None after b is within pending unanswered =
    subst (λ (z : Heard). Bears start script kinded (record { end = (acknowledges z frame (Ok (None, after))).end; answered = frame })) (sym is) record {
      gone = b.gone;
      waiting = b.waiting;
      plan = record { cut = b.plan.cut; last = b.plan.last; pending = pending ∙ b.plan.pending; held = b.plan.held; checked = b.plan.checked; holds = b.plan.holds; agrees = b.plan.agrees; frame = b.plan.frame; frames = b.plan.frames };
      goes_on = b.goes_on;
      between = refl;
      within = within;
      unanswered = unanswered;
    }
acked_so start script kinded at heard frame (Some step) after b is within pending unanswered =
    subst (λ (z : Heard). Bears start script kinded (record { end = (acknowledges z frame (Ok (Some step, after))).end; answered = frame })) (sym is) record {
      gone = b.gone;
      waiting = b.waiting;
      plan = record { cut = b.plan.cut; last = b.plan.last; pending = pending ∙ b.plan.pending; held = b.plan.held; checked = b.plan.checked; holds = b.plan.holds; agrees = b.plan.agrees; frame = b.plan.frame; frames = b.plan.frames };
      goes_on = b.goes_on;
      between = refl;
      within = within;
      unanswered = unanswered;
    }

answers_so : (start : Start) (script : Script) (kinded : List KindedStep) (at : Suspending) (total : ℕ) (is : Bool) → IsAcceptedFrom start.held script → Fits kinded script.steps → total < 2 ^ 32 → nat_lt at.answered at.end.server.frames ≡ is → Bears start script kinded at
    → Bears start script kinded (answers script at total is)
unfolding told
answers_so start script kinded at total false good fits small is b = b
answers_so start script kinded at total true good fits small is b =
    let fewer : at.answered < at.end.server.frames = ltb-true at.answered at.end.server.frames is in
    let next = ahead start script kinded at.end b.gone b.waiting good fits b.plan in
    let frame : ℕ = at.answered + 1 in
    let heard : Heard = holding (listening at.end) [] in
    let n = next_found at.end.window at.answered at.end.server.frames fewer b.unanswered in
    let word = ack_fits SUSPENDS frame total (omega arith) (omega (arith, fewer, b.plan.frames, next.few, good.few)) small in
    let says : hears script (listening at.end) (alone (Ack SUSPENDS frame total)) ≡ acknowledges heard frame (Ok (n.step, n.after)) =
    one_word script (listening at.end) (Ack SUSPENDS frame total) b.goes_on b.between (ack_read SUSPENDS frame total word) ∙ ap (acknowledges heard frame) n.is in
    subst (λ (z : Heard). Bears start script kinded (record { end = z.end; answered = frame })) (sym says)
    (acked_so start script kinded at heard frame n.step n.after b refl (omega (arith, fewer)) n.pending n.unanswered)

-- whatever happens -------------------------------------------------------------------------------------------------------

one_happens : (start : Start) (script : Script) (kinded : List KindedStep) (at : Suspending) (one : Happening) → IsAcceptedFrom start.held script → Fits kinded script.steps → Bears start script kinded at → Bears start script kinded (happens_then script at one)
unfolding happens_then
one_happens start script kinded at Serves good fits b = serves_so start script kinded at good fits b
one_happens start script kinded at (Answers total small) good fits b = answers_so start script kinded at total (nat_lt at.answered at.end.server.frames) good fits small refl b

all_happen : (start : Start) (script : Script) (kinded : List KindedStep) (at : Suspending) (more : List Happening) → IsAcceptedFrom start.held script → Fits kinded script.steps → Bears start script kinded at → Bears start script kinded (fold (happens_then script) at more)
all_happen start script kinded at [] good fits b = b
all_happen start script kinded at (one ∷ more) good fits b = all_happen start script kinded (happens_then script at one) more good fits (one_happens start script kinded at one good fits b)

-- where the client has no word on its way, the server's end is between two of them
between_words : (end : ScheduledEnd) (words : List ClientPdu) → Upward end [] words → end.heard ≡ []
between_words end [] upward = sym (append-nil end.heard) ∙ upward.bytes_are
between_words end (word ∷ words) upward =
    let whole : front (said (word ∷ words)) ≡ Whole (spelling word) (said words) = (upward.carried.0 (said words)).whole in
    let all : front end.heard ≡ Whole (spelling word) (said words) = ap front (sym (append-nil end.heard) ∙ upward.bytes_are) ∙ whole in
    let short = upward.short in absurd cc

bears_world : (start : Start) (script : Script) (kinded : List KindedStep) (w : World) → Keeps Alike start script kinded w → w.up ≡ [] → Bears start script kinded (suspending w)
bears_world start script kinded w keeps none =
    let few = upto-few w.server.server.frames w.server.window.flying keeps.numbered in
    record {
      gone = keeps.gone;
      waiting = keeps.waiting;
      plan = keeps.plan;
      goes_on = keeps.upward.goes_on;
      between = between_words w.server keeps.words (subst (λ z. Upward w.server z keeps.words) none keeps.upward);
      within = omega (arith, few);
      unanswered = InFlight keeps.flying.watched (omega (arith, few)) keeps.numbered;
    }

pub suspending_is_taken : SuspendingIsTaken
suspending_is_taken start script kinded turns more may none =
    let keeps = keeps_from Alike start script kinded turns (begins_alike start script kinded may) may.fits in
    (all_happen start script kinded (suspending (world_from start script kinded turns)) more may.accepted may.fits (bears_world start script kinded (world_from start script kinded turns) keeps none)).goes_on
