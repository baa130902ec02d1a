-- A turn of a server's end, against what the schedule says of it.
use Rattle.std.proofs.Common.{◌≡◌, ℕ, ◌+◌, ◌≤◌, Bool, true, false, ◌&&◌, ◌||◌, not, ◌==◌, cond, nat_lt, List, [], ◌∷◌, ◌++◌, length, map, take, drop, is_some, Ok, Err, refl, sym, ap, ◌∙◌, subst, append_assoc, arith, length-append}
use Rattle.std.proofs.Math.Seq.{drop-append_seam}
use Rattle.std.proofs.lemmas.Bool.{lt-ltb, le-ltb}
use Rattle.std.proofs.lemmas.List.{append-nil, map-append, length-map, length-take-le, take-append-drop}
use Rattle.gfx_base.specs.declared.answer.NoMemory.{NoMemory}
use Rattle.gfx_chooser.specs.Choosing.{Chooser}
use Rattle.gfx_chooser.specs.Kinded.{Asks, kinded}
use Rattle.gfx_chooser.proofs.Asking.{asks_none}
use Rattle.gfx_planner.specs.Server.{Server}
use Rattle.gfx_planner.specs.Planned.{PutsFront, ready}
use Rattle.gfx_planner.specs.Joined.{frame_of, after_frame}
use Rattle.gfx_planner.proofs.Streams.{bare}
use Rattle.gfx_schedule.specs.Plan.{InPlanFrom}
use Rattle.gfx_schedule.specs.Starts.{MayBegin}
use Rattle.gfx_schedule.specs.ServerEnd.{ScheduledEnd, first_frame, behind_frame, numbered, queued, is_none, can_send, due, with_sent, sends, bytes_sent, serves, serving, can_serve, has_served, may_send}
use Rattle.gfx_schedule.specs.declared.turned.Turned.{Turned}
use Rattle.gfx_schedule.specs.declared.turned.Turned.TheVariants.{Moved, Waiting, Ended}
use Rattle.gfx_schedule.proofs.Items.{frame_parts}
use Rattle.gfx_schedule.proofs.Planning.{queues, goes}
use Rattle.gfx_script.specs.Checks.{Held}
use Rattle.gfx_script.specs.Kinds.{KindedStep}
use Rattle.gfx_script.specs.Script.{IsAcceptedFrom}
use Rattle.gfx_script.specs.Scripted.{Script}
use Rattle.gfx_script.specs.declared.step.Step.{Step}
use Rattle.gfx_segment.specs.Framing.{front, holding}
use Rattle.gfx_session.specs.Frames.{HearsAsBefore, due_of, Flies, frame_due, SendsFrame}
use Rattle.gfx_session.specs.Kept.{noted, GoesBy, Stands, InStep, IsServerEndFrom}
use Rattle.gfx_session.specs.Queueing.{next_steps, QueuesFrame}
use Rattle.gfx_session.specs.Serving.{ListensOn, Serves, turn_answer}
use Rattle.gfx_session.specs.declared.digests.Digests.{Digests}
use Rattle.gfx_session.specs.declared.server_end.ServerEnd.{ServerEnd}
use Rattle.gfx_session.proofs.Plans.{both_true, none_false, some_is, none_is, within, goes_at, next_id, brings}
use Rattle.gfx_state.specs.Sending.{sent}
use Rattle.gfx_window.specs.declared.window.Sent.{Sent}
use Rattle.gfx_window.specs.Window.{Window, has_room, watched, with_pending}
use Rattle.gfx_window.proofs.Watched.{watched-map, watched-length}
use Rattle.gfx_window.specs.Window.{sent as with_frame}

-- a frame of the script is queued -----------------------------------------------------------------------------

-- it may be spent meanwhile
abbrev pub awake : ServerEnd → ServerEnd
awake end = record end { spent = false }

abbrev pub with_queued : ServerEnd → ℕ → Window → ServerEnd
with_queued end number window = record end { window = window; last = number; spent = true }

-- nothing else changes then
record QueuedSame (at now : ScheduledEnd) : Type 0 where
  server : now.server ≡ at.server
  ends : now.ends ≡ at.ends
  confirmed : now.confirmed ≡ at.confirmed
  stopped : now.stopped ≡ at.stopped
  heard : now.heard ≡ at.heard

queued_same : (at : ScheduledEnd) → QueuedSame at (queued at)
unfolding queued
queued_same at = record { server = refl; ends = refl; confirmed = refl; stopped = refl; heard = refl }

queued_is : (script : Script) (last number : ℕ) (choosers left : List Chooser) (old new : Window) (at : ScheduledEnd) → GoesBy script choosers at → last ≡ at.last → old ≡ at.window → QueuesFrame (Ok number) script last choosers left old new
    → (number ≡ (queued at).last) × (new ≡ (queued at).window)
unfolding queued
queued_is script last number choosers left old new at goes same window q =
    let first : next_steps script choosers last ≡ first_frame at.left = ap (λ n. first_frame (kinded script (n + 1) choosers (drop n script.steps))) same ∙ ap first_frame (sym goes) in (
      q.0 ∙ (λ i. same i + length (first i)),
      q.1 ∙ (λ i. with_pending (window i) ((window i).pending ++ numbered (same i + 1) (first i))),
    )

drop_first : {X : Type 0} (few : ℕ) (all xs ys : List X) → drop few all ≡ xs ++ ys → few ≤ length all → ys ≡ drop (few + length xs) all
drop_first few all xs ys is within =
    let front = take few all in
    let cut : all ≡ (front ++ xs) ++ ys = sym (take-append-drop few all) ∙ ap (λ z. front ++ z) is ∙ sym (append_assoc front xs ys) in
    let count : length (front ++ xs) ≡ few + length xs = length-append front xs ∙ ap (λ n. n + length xs) (length-take-le few all within) in
    sym (drop-append_seam (front ++ xs) ys) ∙ (λ i. drop (count i) (sym cut i))

queued_left : (at : ScheduledEnd) (all : List Step) → bare at.left ≡ drop at.last all → at.last ≤ length all → bare (queued at).left ≡ drop (queued at).last all
unfolding queued
queued_left at all left within =
    let step = λ (one : KindedStep). one.step in
    let first : List KindedStep = first_frame at.left in
    let behind : List KindedStep = behind_frame at.left in
    let parts : drop at.last all ≡ bare first ++ bare behind = sym left ∙ ap bare (sym (frame_parts at.left)) ∙ map-append step first behind in
    drop_first at.last all (bare first) (bare behind) parts within ∙ ap (λ n. drop (at.last + n) all) (length-map first step)

queued_flying : (at : ScheduledEnd) → (queued at).window.flying ≡ at.window.flying
unfolding queued
queued_flying at = refl

pub queued_stands : (end : ServerEnd) (at : ScheduledEnd) (number : ℕ) (choosers left : List Chooser) (window : Window) → end.last ≤ length end.script.steps → Stands end at → GoesBy end.script choosers at
    → QueuesFrame (Ok number) end.script end.last choosers left end.window window → Stands (awake (with_queued end number window)) (queued at)
queued_stands end at number choosers left window few st goes q =
    let is = queued_is end.script end.last number choosers left end.window window at goes st.last st.listens.window q in
    let same = queued_same at in
    let all : at.last ≤ length end.script.steps = omega (arith, few, st.last) in
    record {
      fresh = refl;
      left = queued_left at end.script.steps st.left all;
      last = is.0;
      planned = st.planned ∙ ap ready (sym same.server);
      listens = record {
        window = is.1;
        ends = st.listens.ends ∙ ap (map (noted end.digests)) (sym same.ends);
        confirmed = st.listens.confirmed ∙ sym same.confirmed;
        closed = st.listens.closed ∙ ap is_some (sym same.stopped);
        even = ap length same.ends ∙ st.listens.even ∙ ap length (sym (queued_flying at));
        heard = λ none. st.listens.heard (sym same.stopped ∙ none) ∙ ap holding (sym same.heard);
        short = λ none. ap front same.heard ∙ st.listens.short (sym same.stopped ∙ none);
      };
    }

-- what is left goes as the choosers choose that are brought
pub queued_in_step : {held : Held} (end : ServerEnd) (number : ℕ) (choosers left : List Chooser) (window : Window) → InStep held end → QueuesFrame (Ok number) end.script end.last choosers left end.window window → InStep held (with_queued end number window)
queued_in_step {held} end number choosers left window was q =
    let by = brings end choosers was in
    let is : InStep held end = by.in_step in
    let new = queued_is end.script end.last number choosers left end.window window is.at by.goes_by is.last is.window q in
    record {
      origin = is.origin;
      checks = is.checks;
      kinded = is.kinded;
      begins = is.begins;
      at = queued is.at;
      gone = is.gone;
      waiting = is.waiting ++ first_frame is.at.left;
      plan = queues is.origin end.script is.kinded is.at is.gone is.waiting is.plan;
      last = new.0;
      window = new.1;
      planned = is.planned ∙ ap ready (sym (queued_same is.at).server);
    }

-- a frame goes --------------------------------------------------------------------------------------------------

can_is : (end : ServerEnd) (at : ScheduledEnd) → Stands (awake end) at → may_send end.confirmed end.window ≡ can_send at
can_is end at st = λ i. st.listens.confirmed i && (not (is_none (st.listens.window i).pending) && has_room (st.listens.window i))

sends_is : (script : Script) (at : ScheduledEnd) → can_send at ≡ true → (sends script at ≡ with_sent at (after_frame script at.server (due script at))) × (bytes_sent script at ≡ sent (frame_of script at.server (due script at)))
unfolding sends bytes_sent
sends_is script at can =
    (ap (λ b. cond b (with_sent at (after_frame script at.server (due script at))) at) can, ap (λ b. cond b (sent (frame_of script at.server (due script at))) []) can)

rests_is : (script : Script) (at : ScheduledEnd) → can_send at ≡ false → (sends script at ≡ at) × (bytes_sent script at ≡ [])
unfolding sends bytes_sent
rests_is script at can =
    (ap (λ b. cond b (with_sent at (after_frame script at.server (due script at))) at) can, ap (λ b. cond b (sent (frame_of script at.server (due script at))) []) can)

flown : (mid new : ServerEnd) (at : ScheduledEnd) (server : Server) → Stands (awake mid) at → Flies mid new server → server.frames ≡ mid.planner.server.frames + 1 → Stands (awake new) (with_sent at server)
unfolding with_sent
flown mid new at server st flies id = record {
  fresh = refl;
  left = st.left ∙ ap (λ (s : Script). drop at.last s.steps) (sym flies.script);
  last = flies.last ∙ st.last;
  planned = flies.planned;
  listens = record {
    window = flies.window ∙ (λ i. with_frame (st.listens.window i) (sym id i) (st.last i));
    ends =
        flies.ends ∙ (λ i. st.listens.ends i ++ watched (st.listens.window i).suspended (noted mid.digests server.state ∷ []))
        ∙ ap (λ z. map (noted mid.digests) at.ends ++ z) (sym (watched-map (noted mid.digests) at.window.suspended (server.state ∷ [])))
        ∙ sym (map-append (noted mid.digests) at.ends (watched at.window.suspended (server.state ∷ [])))
        ∙ ap (λ (d : Digests). map (noted d) (at.ends ++ watched at.window.suspended (server.state ∷ []))) (sym flies.digests);
    confirmed = flies.confirmed ∙ st.listens.confirmed;
    closed = flies.closed ∙ st.listens.closed;
    even =
        (let flight : Sent = record { frame = server.frames; step = at.last } in
        omega (arith, st.listens.even, length-append at.ends (watched at.window.suspended (server.state ∷ [])), length-append at.window.flying (watched at.window.suspended (flight ∷ [])), watched-length at.window.suspended (server.state ∷ []) (flight ∷ []) refl));
    heard = λ none. flies.splitter ∙ st.listens.heard none;
    short = st.listens.short;
  };
}

-- what the schedule says of it
abbrev pub Follows : ServerEnd → ServerEnd → Bool → List ℕ → List ℕ → ScheduledEnd → Type 0
Follows mid new went before now at = Stands (awake new) (sends mid.script at) × (now ≡ before ++ bytes_sent mid.script at) × (went ≡ can_send at)

follows : {held : Held} (mid new : ServerEnd) (went : Bool) (before now : List ℕ) (at : ScheduledEnd) → InStep held mid → Stands (awake mid) at → SendsFrame (Ok went) mid new before now → Follows mid new went before now at
follows mid new true before now at is st s =
    let can = sym (can_is mid at st) ∙ s.0 in
    let due_is = sends_is mid.script at can in
    let same : after_frame mid.script mid.planner.server (due_of mid.script mid.window) ≡ after_frame mid.script at.server (due mid.script at) = λ i. after_frame mid.script ((st.planned i).server) (due_of mid.script (st.listens.window i)) in
    let put : frame_due mid ≡ bytes_sent mid.script at = (λ i. sent (frame_of mid.script ((st.planned i).server) (due_of mid.script (st.listens.window i)))) ∙ sym due_is.1 in (
      subst (Stands (awake new)) (ap (with_sent at) same ∙ sym due_is.0) (flown mid new at _ st s.1 (next_id mid is s.0)),
      s.2 ∙ ap (λ z. before ++ z) put,
      sym can,
    )
follows mid new false before now at is st s =
    let can = sym (can_is mid at st) ∙ s.0 in
    let due_is = rests_is mid.script at can in (
      subst (λ (n : ServerEnd). Stands (awake n) (sends mid.script at)) (sym s.1) (subst (Stands (awake mid)) (sym due_is.0) st),
      s.2 ∙ sym (append-nil before) ∙ ap (λ z. before ++ z) (sym due_is.1),
      sym can,
    )

-- and it stays in step
stays : {held : Held} (mid new : ServerEnd) (went : Bool) (before now : List ℕ) → InStep held mid → SendsFrame (Ok went) mid new before now → InStep held (awake new)
unfolding with_sent
stays mid new true before now is s =
    let flies = s.1 in
    let m = goes_at mid is s.0 in
    let server = after_frame mid.script is.at.server (due mid.script is.at) in
    let same : after_frame mid.script mid.planner.server (due_of mid.script mid.window) ≡ server = λ i. after_frame mid.script ((is.planned i).server) (due_of mid.script (is.window i)) in
    record {
      origin = is.origin;
      checks = is.checks;
      kinded = is.kinded;
      begins = subst (λ (s : Script). MayBegin is.origin s is.kinded) (sym flies.script) is.begins;
      at = with_sent is.at server;
      gone = is.gone ++ is.waiting;
      waiting = [];
      plan = subst (λ (s : Script). InPlanFrom is.origin s is.kinded (with_sent is.at server) (is.gone ++ is.waiting) []) (sym flies.script)
          (goes is.origin mid.script is.kinded is.at is.gone is.waiting is.plan m.ahead m.some m.joins);
      last = flies.last ∙ is.last;
      window = flies.window ∙ (λ i. with_frame (is.window i) ((is.planned i).server.frames + 1) (is.last i)) ∙ ap (λ n. with_frame is.at.window n is.at.last) (sym m.joins.frames);
      planned = flies.planned ∙ ap ready same;
    }
stays {held} mid new false before now is s =
    subst (InStep held) (sym (ap awake s.1)) record { origin = is.origin; checks = is.checks; kinded = is.kinded; begins = is.begins; at = is.at; gone = is.gone; waiting = is.waiting; plan = is.plan; last = is.last; window = is.window; planned = is.planned }

-- the turn --------------------------------------------------------------------------------------------------------

-- all of it was served: a turn changes nothing
abbrev pub served_now : ServerEnd → Bool
served_now end = is_none (drop end.last end.script.steps) && (is_none end.window.pending && is_none end.window.flying)

left_none : (end : ServerEnd) (at : ScheduledEnd) → Stands end at → is_none (drop end.last end.script.steps) ≡ is_none at.left
left_none end at st = ap (λ n. is_none (drop n end.script.steps)) st.last ∙ ap is_none (sym st.left) ∙ ap (λ n. n == 0) (length-map at.left (λ (one : KindedStep). one.step))

served_is : (end : ServerEnd) (at : ScheduledEnd) → Stands end at → served_now end ≡ has_served at
served_is end at st = λ i. left_none end at st i && (is_none (st.listens.window i).pending && is_none (st.listens.window i).flying)

queued_none : (at : ScheduledEnd) → at.left ≡ [] → queued at ≡ at
unfolding queued
queued_none at none =
    let zero_more : at.last + 0 ≡ at.last = omega arith in
    ap (λ left. record at { left = behind_frame left; last = at.last + length (first_frame left); window = with_pending at.window (at.window.pending ++ numbered (at.last + 1) (first_frame left)) }) none
    ∙ (λ i. record at { left = sym none i; last = zero_more i; window = with_pending at.window (append-nil at.window.pending i) })

idles : (script : Script) (at : ScheduledEnd) → has_served at ≡ true → (serves script at ≡ at) × (serving script at ≡ [])
idles script at done =
    let tests = both_true (is_none at.left) (is_none at.window.pending && is_none at.window.flying) done in
    let still = queued_none at (none_is at.left tests.0) in
    let wait = (both_true (is_none at.window.pending) (is_none at.window.flying) tests.1).0 in
    let can : can_send at ≡ false = ap (λ b. at.confirmed && (not b && has_room at.window)) wait ∙ none_false at.confirmed in
    let rests = rests_is script at can in
    (ap (sends script) still ∙ rests.0, ap (bytes_sent script) still ∙ rests.1)

pub ended_turn : (end : ServerEnd) (choosers : List Chooser) (before : List ℕ) → end.spent ≡ false → served_now end ≡ true → Serves (Ok Ended) end end choosers choosers before before
ended_turn end choosers before fresh done = (fresh, refl, asks_none end.script end.last choosers, λ at st goes. by at st, refl)
  where
    by : (at : ScheduledEnd) → Stands end at → Stands end (serves end.script at) × (before ≡ before ++ serving end.script at) × (Ended ≡ turn_answer at)
    by at st =
        let served = sym (served_is end at st) ∙ done in
        let idle = idles end.script at served in (
          subst (Stands end) (sym idle.0) st,
          sym (append-nil before) ∙ ap (λ z. before ++ z) (sym idle.1),
          ap (λ b. cond b Ended (cond (can_serve at) Moved Waiting)) (sym served),
        )

-- what stays where a frame goes
pub same_script : (mid new : ServerEnd) (went : Bool) (before now : List ℕ) → SendsFrame (Ok went) mid new before now → new.script ≡ mid.script
same_script mid new true before now s = s.1.script
same_script mid new false before now s = ap (λ (z : ServerEnd). z.script) s.1

same_last : (mid new : ServerEnd) (went : Bool) (before now : List ℕ) → SendsFrame (Ok went) mid new before now → new.last ≡ mid.last
same_last mid new true before now s = s.1.last
same_last mid new false before now s = ap (λ (z : ServerEnd). z.last) s.1

same_digests : (mid new : ServerEnd) (went : Bool) (before now : List ℕ) → SendsFrame (Ok went) mid new before now → new.digests ≡ mid.digests
same_digests mid new true before now s = s.1.digests
same_digests mid new false before now s = ap (λ (z : ServerEnd). z.digests) s.1

-- some step was queued where one was left
some_queued : (left : List KindedStep) (last number : ℕ) → number ≡ last + length (first_frame left) → nat_lt last number ≡ not (is_none left)
some_queued [] last number is = le-ltb last number (omega (arith, is))
some_queued (x ∷ xs) last number is = lt-ltb last number (omega (arith, is)) ∙ ap not (sym (some_is x xs))

either_is : (a b : Bool) → (not a || b) ≡ not (a && not b)
either_is true true = refl
either_is true false = refl
either_is false b = refl

-- what is told of a turn that isn't the last
abbrev pub told : Bool → Bool → Turned
told some went = cond (some || went) Moved Waiting

pub turn : {held : Held} (end new : ServerEnd) (number : ℕ) (choosers left : List Chooser) (window : Window) (went : Bool) (before now : List ℕ) → IsServerEndFrom held end → end.spent ≡ false → served_now end ≡ false
    → QueuesFrame (Ok number) end.script end.last choosers left end.window window → SendsFrame (Ok went) (with_queued end number window) new before now → new.script ≡ end.script
    → Serves (Ok (told (nat_lt end.last number) went)) end (awake new) choosers left before now
turn end new number choosers left window went before now is fresh more q s kept_script = (fresh, kept_script, asked, λ at st goes. by at st goes, same_digests mid new went before now s)
  where
    mid : ServerEnd
    mid = with_queued end number window

    asked : Asks end.script end.last new.last choosers left
    asked = subst (λ n. Asks end.script end.last n choosers left) (sym (same_last mid new went before now s)) q.2

    by : (at : ScheduledEnd) → Stands end at → GoesBy end.script choosers at → Stands (awake new) (serves end.script at) × (now ≡ before ++ serving end.script at) × (told (nat_lt end.last number) went ≡ turn_answer at)
    by at st goes =
        let steps = is.in_step fresh in
        let stands = queued_stands end at number choosers left window (within end steps) st goes q in
        let f = follows mid new went before now (queued at) (queued_in_step end number choosers left window steps q) stands s in
        let waits : at.left ≡ kinded end.script (end.last + 1) choosers (drop end.last end.script.steps) = goes ∙ ap (λ n. kinded end.script (n + 1) choosers (drop n end.script.steps)) (sym st.last) in
        let some : nat_lt end.last number ≡ not (is_none at.left) = some_queued at.left end.last number (q.0 ∙ ap (λ z. end.last + length (first_frame z)) (sym waits)) in
        let moved : (nat_lt end.last number || went) ≡ can_serve at = (λ i. some i || f.2 i) ∙ either_is (is_none at.left) (can_send (queued at)) in
        let unserved : has_served at ≡ false = sym (served_is end at st) ∙ more in (
          f.0,
          f.1,
          ap (λ b. cond b Moved Waiting) moved ∙ ap (λ b. cond b Ended (cond (can_serve at) Moved Waiting)) (sym unserved),
        )

pub turned_is : {held : Held} (end new : ServerEnd) (number : ℕ) (choosers left : List Chooser) (window : Window) (went : Bool) (before now : List ℕ) → IsServerEndFrom held end → end.spent ≡ false
    → QueuesFrame (Ok number) end.script end.last choosers left end.window window → SendsFrame (Ok went) (with_queued end number window) new before now → new.script ≡ end.script → IsServerEndFrom held (awake new)
turned_is {held} end new number choosers left window went before now is fresh q s kept_script = record {
  good = subst (IsAcceptedFrom held) (sym kept_script) is.good;
  in_step = λ again. stays (with_queued end number window) new went before now (queued_in_step end number choosers left window (is.in_step fresh) q) s;
}

-- without memory ------------------------------------------------------------------------------------------------------

-- only what waits has changed of what a server's end hears its client by
pub listens_queued : (end mid new : ServerEnd) → mid.window ≡ with_pending end.window mid.window.pending → mid.ends.items ≡ end.ends.items → mid.digests ≡ end.digests → mid.confirmed ≡ end.confirmed → mid.closed ≡ end.closed → mid.splitter ≡ end.splitter
    → HearsAsBefore mid new → ListensOn end new
listens_queued end mid new window ends digests confirmed closed splitter h = λ at l. record {
  window = h.window ∙ window ∙ ap (λ z. with_pending end.window z.pending) (sym h.window) ∙ ap (λ z. with_pending z new.window.pending) l.window;
  ends = h.ends ∙ ends ∙ l.ends ∙ ap (λ (d : Digests). map (noted d) at.ends) (sym (h.digests ∙ digests));
  even = l.even;
  confirmed = h.confirmed ∙ confirmed ∙ l.confirmed;
  closed = h.closed ∙ closed ∙ l.closed;
  heard = λ none. h.splitter ∙ splitter ∙ l.heard none;
  short = l.short;
}

-- it was spent before
pub still_spent : (end : ServerEnd) (choosers left : List Chooser) (before : List ℕ) (e : NoMemory) → end.spent ≡ true → Serves (Err e) end end choosers left before before
still_spent end choosers left before e spent = (
  spent,
  refl,
  λ was. refl,
  λ at st goes. absurd (let fresh : end.spent ≡ false = st.fresh in cc),
  listens_queued end end end refl refl refl refl refl refl record { window = refl; ends = refl; digests = refl; confirmed = refl; closed = refl; splitter = refl },
  refl,
)

-- a step wasn't queued
pub unqueued : (end : ServerEnd) (window : Window) (choosers left : List Chooser) (before : List ℕ) (e : NoMemory) → end.spent ≡ false → window ≡ with_pending end.window window.pending
    → Serves (Err e) end (record end { window = window; spent = true }) choosers left before before
unqueued end window choosers left before e fresh only = (
  refl,
  refl,
  λ was. refl,
  λ at st goes. record { part = []; rest = serving end.script at; cut = refl; gained = sym (append-nil before) },
  (let next : ServerEnd = record end { window = window; spent = true } in
      listens_queued end next next only refl refl refl refl refl record { window = refl; ends = refl; digests = refl; confirmed = refl; closed = refl; splitter = refl }),
  refl,
)

-- a front of the frame was
pub unsent : {held : Held} (end new : ServerEnd) (number : ℕ) (choosers left : List Chooser) (window : Window) (before now : List ℕ) (e f : NoMemory) → IsServerEndFrom held end → end.spent ≡ false
    → QueuesFrame (Ok number) end.script end.last choosers left end.window window → SendsFrame (Err f) (with_queued end number window) new before now → Serves (Err e) end new choosers left before now
unsent end new number choosers left window before now e f is fresh q s =
    (s.2, s.1, λ was. absurd cc, λ at st goes. by at st goes, listens_queued end (with_queued end number window) new (q.1 ∙ ap (with_pending end.window) (ap (λ (w : Window). w.pending) (sym q.1))) refl refl refl refl refl s.4, s.4.digests)
  where
    mid : ServerEnd
    mid = with_queued end number window

    by : (at : ScheduledEnd) → Stands end at → GoesBy end.script choosers at → PutsFront before now (serving end.script at)
    by at st goes =
        let stands = queued_stands end at number choosers left window (within end (is.in_step fresh)) st goes q in
        let can = sym (can_is mid (queued at) stands) ∙ s.0 in
        let put : frame_due mid ≡ serving end.script at = (λ i. sent (frame_of end.script ((stands.planned i).server) (due_of end.script (stands.listens.window i)))) ∙ sym (sends_is end.script (queued at) can).1 in
        subst (PutsFront before now) put s.3
