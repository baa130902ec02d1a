-- Every turn keeps what a session promises.
use Rattle.std.proofs.Common.{◌≡◌, ℕ, ◌+◌, ◌≤◌, ◌<◌, ◌^◌, Bool, true, false, ◌&&◌, ◌||◌, not, cond, if◌then◌else◌, List, [], ◌∷◌, ◌++◌, length, fold, map, take, drop, None, Ok, inl, inr, refl, sym, ap, ◌∙◌, subst, append_assoc, arith, length-append}
use Rattle.std.specs.FinMap.{get}
use Rattle.std.specs.Prelude.{nat_lt}
use Rattle.std.specs.List.{AllByRecursion}
use Rattle.std.proofs.lemmas.Bool.{cases_Bool, ltb-true}
use Rattle.std.proofs.lemmas.List.{append-nil, map-append, length-map, take-append-drop}
use Rattle.std.proofs.Math.Seq.{take-append_seam, drop-append_seam}
use Rattle.gfx_caps.specs.declared.message.ClientPdu.{ClientPdu}
use Rattle.gfx_caps.specs.declared.offer.Offer.{Offer}
use Rattle.gfx_caps.specs.Offers.{advertised, IsOffer}
use Rattle.gfx_client.specs.Replies.{alone, replies}
use Rattle.gfx_client.proofs.ReplyLemmas.{hello_read}
use Rattle.gfx_pdu.specs.declared.pdu.Pdu.{Pdu}
use Rattle.gfx_script.specs.Checks.{Held, held_through}
use Rattle.gfx_script.specs.Kinds.{KindedStep, Fits}
use Rattle.gfx_script.specs.Script.{IsAccepted, IsAcceptedFrom}
use Rattle.gfx_script.specs.Scripted.{Script}
use Rattle.gfx_script.specs.declared.turn.Turn.{Turn}
use Rattle.gfx_script.specs.declared.turn.Turn.TheVariants.{Server, Client, Answer}
use Rattle.gfx_segment.specs.Framing.{Short, front}
use Rattle.gfx_segment.proofs.FrontLemmas.{front-nil}
use Rattle.gfx_state.specs.History.{history, history_from, ended}
use Rattle.gfx_state.specs.Run.{Run, begun_from, run_from, eats}
use Rattle.gfx_state.specs.Same.{StepsAlike, Wider}
use Rattle.gfx_state.specs.Sending.{all_steps, sent}
use Rattle.gfx_state.specs.Alike.{Alike}
use Rattle.gfx_state.specs.State.{State, fresh, started}
use Rattle.gfx_state.proofs.Effects.{history-nil, history-append, nothing}
use Rattle.gfx_state.proofs.Runs.{eats-append, eats-nil}
use Rattle.gfx_state.proofs.Sent.{sent-nil}
use Rattle.gfx_state.proofs.Wider.{Wider_same, started_fresh, wider_alike}
use Rattle.gfx_alike.proofs.Steps.{alike_steps, wider_is_alike}
use Rattle.gfx_planner.specs.Tiles.{HoldsLive}
use Rattle.gfx_planner.specs.Want.{want_from}
use Rattle.gfx_planner.specs.Server.{Server as Planned, at_start}
use Rattle.gfx_planner.specs.Agree.{Agree}
use Rattle.gfx_planner.specs.Holds.{Holds}
use Rattle.gfx_planner.specs.Joined.{frame_of, after_frame}
use Rattle.gfx_prog_live.specs.Live.{Passes}
use Rattle.gfx_prog_decode.specs.Records.{Records}
use Rattle.gfx_planner.proofs.Effects.{all_steps-none}
use Rattle.gfx_planner.proofs.Lists.{all_both, all_front, all_behind}
use Rattle.gfx_planner.proofs.Streams.{stands_at_start}
use Rattle.gfx_planner.proofs.TilesFollow.{has-records}
use Rattle.gfx_window.specs.declared.window.Sent.{Sent}
use Rattle.gfx_window.specs.Window.{has_room, watched}
use Rattle.gfx_schedule.specs.Frames.{frames_of}
use Rattle.gfx_schedule.specs.Hearing.{Heard, listening, confirm, hears}
use Rattle.gfx_schedule.specs.Plan.{InPlanFrom}
use Rattle.gfx_schedule.specs.Rising.{AreRising}
use Rattle.gfx_schedule.specs.Schedule.{ShowsWanted, wanted_at, IsShownFrom, IsAlikeFrom, KeepsWorldBy, KeepsWorldFrom, KeepsAlikeFrom, EverySchedule, EveryScheduleFrom, EveryScheduleAlike}
use Rattle.gfx_schedule.specs.Starts.{MayBegin, MayStart, Start, from_nothing}
use Rattle.gfx_schedule.specs.ServerEnd.{ScheduledEnd, server_end_from, is_none, queued, can_send, due, sends, bytes_sent, with_sent, first_frame}
use Rattle.gfx_schedule.specs.Words.{said, IsWord, holding, tell, tells, TakesAll, IsListening}
use Rattle.gfx_schedule.specs.World.{World, Acknowledged, acknowledgements, greeting, begin_from, server_turns, client_takes, server_heard, happens, world_from}
use Rattle.gfx_schedule.proofs.Confirming.{Confirms, confirm_extends, confirms, tell_offers, version_fits}
use Rattle.gfx_schedule.proofs.Flights.{frames_of-append, end_states-frames, Flight, pair_of, Downward, draws, follows, Extends}
use Rattle.gfx_schedule.proofs.Items.{length-numbered}
use Rattle.gfx_schedule.proofs.Keeping.{word_in, replies_said, said-append, word_of, words_of, FitsWord, words_carried, having, HasFlying, tells_all, takes_all}
use Rattle.gfx_schedule.proofs.Numbered.{IsUpTo, upto-more, upto-behind}
use Rattle.gfx_schedule.proofs.Lists.{nil_parts, splits, rises_on, rises_first, all_within}
use Rattle.gfx_schedule.proofs.Planning.{queues, ahead, joins, goes, flight_of, extends, decoded_fits}
use Rattle.gfx_schedule.proofs.Words.{words_are_heard_in_pieces}

-- what every session needs of its start: the relation of its two ends there is one that messages keep, and the
-- confirmation of a version keeps it too
pub record Begins (R : State → State → Type 0) (start : Start) (script : Script) : Type 0 where
  pub good : IsAcceptedFrom start.held script
  pub may : MayStart script start
  pub alike : StepsAlike R
  pub related : R start.server.state start.client
  pub greets : start.confirmed ≡ false → (c : Confirms script) → (client : State) → R start.server.state client → Extends R client start.server.state (confirm c.chosen ∷ []) (λ last. [])

-- what holds of a session -------------------------------------------------------------------------------------

-- both ends right after a frame
pub record IsFlight (R : State → State → Type 0) (start : Start) (script : Script) (kinded : List KindedStep) (flight : Flight) : Type 0 where
  pub related : R flight.server flight.client
  pub shows : ShowsWanted flight.server (wanted_at start script kinded flight.sent_as.step)
  pub fits : FitsWord flight

abbrev pub step_of : Flight → ℕ
step_of flight = flight.sent_as.step

-- the same of a frame that is acknowledged
pub record IsSeen (R : State → State → Type 0) (start : Start) (script : Script) (kinded : List KindedStep) (ack : Acknowledged) : Type 0 where
  pub related : R ack.server ack.client
  pub shows : ShowsWanted ack.server (wanted_at start script kinded ack.step)

-- before the version is confirmed nothing is sent; from then on the client speaks of the frames that it drew
pub data Phase (start : Start) (script : Script) (end : ScheduledEnd) (drawn coming : List Flight) (words : List ClientPdu) : Type 0 where
  Greeting : (start.confirmed ≡ false) × (end.confirmed ≡ false) → end.server ≡ start.server → drawn ≡ [] → coming ≡ [] → words ≡ advertised script.offers ∷ [] → Phase start script end drawn coming words
  Going : end.confirmed ≡ true → words ≡ map word_of drawn → Phase start script end drawn coming words

-- the bytes on their way to the server's end are these messages
pub record Upward (end : ScheduledEnd) (up : List ℕ) (words : List ClientPdu) : Type 0 where
  pub goes_on : end.stopped ≡ None
  pub short : front end.heard ≡ Short
  pub bytes_are : end.heard ++ up ≡ said words
  pub carried : AllByRecursion IsWord words

pub record Keeps (R : State → State → Type 0) (start : Start) (script : Script) (kinded : List KindedStep) (w : World) : Type 0 where
  pub started : w.start ≡ start.client
  pub gone : List KindedStep
  pub waiting : List KindedStep
  pub plan : InPlanFrom start script kinded w.server gone waiting
  -- the frames that the client has drawn and the server's end has not seen acknowledged, and those to come
  pub drawn : List Flight
  pub coming : List Flight
  pub flying : HasFlying w.server (drawn ++ coming)
  pub numbered : IsUpTo w.server.server.frames w.server.window.flying
  pub flights : AllByRecursion (IsFlight R start script kinded) (drawn ++ coming)
  pub downward : Downward R (run_from w.start w.taken) w.down w.server.server.state coming
  pub words : List ClientPdu
  pub upward : Upward w.server w.up words
  pub phase : Phase start script w.server drawn coming words
  pub drawn_are : w.drawn ≡ map (λ (f : Flight). f.client) drawn
  pub there : frames_of (history_from w.start w.taken) ≡ map (λ (a : Acknowledged). (a.frame, a.client)) w.acks ++ map pair_of drawn
  pub acks : AllByRecursion (IsSeen R start script kinded) w.acks
  pub size : w.server.window.size ≡ script.window
  pub window : length w.server.window.flying ≤ script.window
  pub rising : AreRising 0 (map (λ (a : Acknowledged). a.step) w.acks ++ map step_of (drawn ++ coming))
  pub within : AllByRecursion (λ step. step ≤ length gone) (map (λ (a : Acknowledged). a.step) w.acks ++ map step_of (drawn ++ coming))

-- and so the promise, where the client's state is the server's but for limits that may be wider
shown_wider : (start : Start) (script : Script) (kinded : List KindedStep) (acks : List Acknowledged) → AllByRecursion (IsSeen Wider start script kinded) acks → AllByRecursion (IsShownFrom start script kinded) acks
shown_wider start script kinded [] all = tt
shown_wider start script kinded (ack ∷ acks) all =
    let w = all.0.related in
    let is = all.0.shows in (
      record {
        same = Wider_same ack.server ack.client w;
        server = is;
        client = record {
          shown = sym w.shown ∙ is.shown;
          slots = sym w.slots ∙ is.slots;
          tiles = λ key send found. ap (λ (records : Records). get records key) (sym w.records) ∙ is.tiles key send found;
        };
      },
      shown_wider start script kinded acks all.1,
    )

shown_alike : (start : Start) (script : Script) (kinded : List KindedStep) (acks : List Acknowledged) → AllByRecursion (IsSeen Alike start script kinded) acks → AllByRecursion (IsAlikeFrom start script kinded) acks
shown_alike start script kinded [] all = tt
shown_alike start script kinded (ack ∷ acks) all = (record { alike = all.0.related; server = all.0.shows }, shown_alike start script kinded acks all.1)

-- whatever is said of the acknowledged frames
promised_by : (R : State → State → Type 0) (IsSo : Acknowledged → Type 0) (start : Start) (script : Script) (kinded : List KindedStep) (w : World) → AllByRecursion IsSo w.acks → Keeps R start script kinded w → KeepsWorldBy IsSo start script w
promised_by R IsSo start script kinded w shown keeps = record {
  started = keeps.started;
  client_goes_on = keeps.downward.inside.goes_on;
  server_goes_on = keeps.upward.goes_on;
  behind = map pair_of keeps.drawn;
  there = keeps.there;
  shown = shown;
  window = keeps.window;
  rising = rises_first 0 (map (λ (a : Acknowledged). a.step) w.acks) _ keeps.rising;
}

pub promised : (start : Start) (script : Script) (kinded : List KindedStep) (w : World) → Keeps Wider start script kinded w → KeepsWorldFrom start script kinded w
promised start script kinded w keeps = promised_by Wider (IsShownFrom start script kinded) start script kinded w (shown_wider start script kinded w.acks keeps.acks) keeps

pub promised_alike : (start : Start) (script : Script) (kinded : List KindedStep) (w : World) → Keeps Alike start script kinded w → KeepsAlikeFrom start script kinded w
promised_alike start script kinded w keeps = promised_by Alike (IsAlikeFrom start script kinded) start script kinded w (shown_alike start script kinded w.acks keeps.acks) keeps

-- the client takes bytes -----------------------------------------------------------------------------------------

-- it speaks of the frames that it draws
speaks : (start : Start) (script : Script) (end : ScheduledEnd) (drawn now later : List Flight) (words : List ClientPdu) → Phase start script end drawn (now ++ later) words → Phase start script end (drawn ++ now) later (words ++ map word_of now)
speaks start script end drawn [] later words (Greeting unconfirmed at none_drawn none_coming are) =
    Greeting unconfirmed at (append-nil drawn ∙ none_drawn) none_coming (append-nil words ∙ are)
speaks start script end drawn (flight ∷ now) later words (Greeting unconfirmed at none_drawn none_coming are) = absurd cc
speaks start script end drawn now later words (Going confirmed are) = Going confirmed (ap (λ z. z ++ map word_of now) are ∙ sym (map-append word_of drawn now))

fits_of : (R : State → State → Type 0) (start : Start) (script : Script) (kinded : List KindedStep) (flights : List Flight) → AllByRecursion (IsFlight R start script kinded) flights → AllByRecursion FitsWord flights
fits_of R start script kinded [] all = tt
fits_of R start script kinded (flight ∷ flights) all = (all.0.fits, fits_of R start script kinded flights all.1)

clients_of : (flights : List Flight) → map (λ (pair : ℕ × State). pair.1) (map pair_of flights) ≡ map (λ (f : Flight). f.client) flights
clients_of [] = refl
clients_of (flight ∷ flights) = ap (λ z. flight.client ∷ z) (clients_of flights)

pub takes : (R : State → State → Type 0) (start : Start) (script : Script) (kinded : List KindedStep) (w : World) (bytes behind : List ℕ) → w.down ≡ bytes ++ behind → Keeps R start script kinded w → Keeps R start script kinded (client_takes w bytes behind)
unfolding client_takes
takes R start script kinded w bytes behind cut keeps =
    let run : Run = run_from w.start w.taken in
    let d = draws R run bytes behind w.server.server.state keeps.coming (subst (λ z. Downward R run z w.server.server.state keeps.coming) cut keeps.downward) in
    let ran : run_from w.start (w.taken ++ bytes) ≡ eats run bytes = eats-append _ w.taken bytes in
    let all : keeps.drawn ++ keeps.coming ≡ (keeps.drawn ++ d.now) ++ d.later = ap (λ z. keeps.drawn ++ z) d.cut ∙ sym (append_assoc keeps.drawn d.now d.later) in
    let fits = all_front FitsWord d.now d.later (all_behind FitsWord keeps.drawn _ (subst (AllByRecursion FitsWord) (ap (λ z. keeps.drawn ++ z) d.cut) (fits_of R start script kinded _ keeps.flights))) in
    let said_now : replies (history run bytes) ≡ said (map word_of d.now) = replies_said (history run bytes) ∙ ap (λ z. said (map word_in z)) d.drawn ∙ ap said (words_of d.now) in
    let states_now : ended run bytes ≡ map (λ (f : Flight). f.client) d.now = end_states-frames (history run bytes) ∙ ap (map (λ (pair : ℕ × State). pair.1)) d.drawn ∙ clients_of d.now in
    record {
      started = keeps.started;
      gone = keeps.gone;
      waiting = keeps.waiting;
      plan = keeps.plan;
      drawn = keeps.drawn ++ d.now;
      coming = d.later;
      flying = subst (HasFlying w.server) all keeps.flying;
      numbered = keeps.numbered;
      flights = subst (AllByRecursion (IsFlight R start script kinded)) all keeps.flights;
      downward = subst (λ z. Downward R z behind w.server.server.state d.later) (sym ran) d.downward;
      words = keeps.words ++ map word_of d.now;
      upward = record {
        goes_on = keeps.upward.goes_on;
        short = keeps.upward.short;
        bytes_are = sym (append_assoc w.server.heard w.up _) ∙ ap (λ z. z ++ replies (history run bytes)) keeps.upward.bytes_are ∙ ap (λ z. said keeps.words ++ z) said_now ∙ sym (said-append keeps.words (map word_of d.now));
        carried = all_both IsWord keeps.words (map word_of d.now) keeps.upward.carried (words_carried d.now fits);
      };
      phase = speaks start script w.server keeps.drawn d.now d.later keeps.words (subst (λ z. Phase start script w.server keeps.drawn z keeps.words) d.cut keeps.phase);
      drawn_are = ap (λ z. z ++ ended run bytes) keeps.drawn_are ∙ ap (λ z. map (λ (f : Flight). f.client) keeps.drawn ++ z) states_now ∙ sym (map-append (λ (f : Flight). f.client) keeps.drawn d.now);
      there =
          ap frames_of (history-append _ w.taken bytes) ∙ frames_of-append (history_from w.start w.taken) (history run bytes)
          ∙ ap (λ z. z ++ frames_of (history run bytes)) keeps.there ∙ ap (λ z. (map (λ (a : Acknowledged). (a.frame, a.client)) w.acks ++ map pair_of keeps.drawn) ++ z) d.drawn
          ∙ append_assoc (map (λ (a : Acknowledged). (a.frame, a.client)) w.acks) (map pair_of keeps.drawn) (map pair_of d.now)
          ∙ ap (λ z. map (λ (a : Acknowledged). (a.frame, a.client)) w.acks ++ z) (sym (map-append pair_of keeps.drawn d.now));
      acks = keeps.acks;
      size = keeps.size;
      window = keeps.window;
      rising = subst (λ z. AreRising 0 (map (λ (a : Acknowledged). a.step) w.acks ++ map step_of z)) all keeps.rising;
      within = subst (λ z. AllByRecursion (λ step. step ≤ length keeps.gone) (map (λ (a : Acknowledged). a.step) w.acks ++ map step_of z)) all keeps.within;
    }

-- the server's end queues and sends ------------------------------------------------------------------------------

-- nothing but what is queued changes
pub queueing : (R : State → State → Type 0) (start : Start) (script : Script) (kinded : List KindedStep) (w : World) → Keeps R start script kinded w → Keeps R start script kinded (record w { server = queued w.server })
unfolding queued
queueing R start script kinded w keeps = record {
  started = keeps.started;
  gone = keeps.gone;
  waiting = keeps.waiting ++ first_frame w.server.left;
  plan = queues start script kinded w.server keeps.gone keeps.waiting keeps.plan;
  drawn = keeps.drawn;
  coming = keeps.coming;
  flying = record { flying = keeps.flying.flying; ends = keeps.flying.ends; watched = keeps.flying.watched };
  numbered = keeps.numbered;
  flights = keeps.flights;
  downward = keeps.downward;
  words = keeps.words;
  upward = record { goes_on = keeps.upward.goes_on; short = keeps.upward.short; bytes_are = keeps.upward.bytes_are; carried = keeps.upward.carried };
  phase = by keeps.phase;
  drawn_are = keeps.drawn_are;
  there = keeps.there;
  acks = keeps.acks;
  size = keeps.size;
  window = keeps.window;
  rising = keeps.rising;
  within = keeps.within;
}
  where
    by : Phase start script w.server keeps.drawn keeps.coming keeps.words → Phase start script (queued w.server) keeps.drawn keeps.coming keeps.words
    by (Greeting unconfirmed at none_drawn none_coming are) = Greeting unconfirmed at none_drawn none_coming are
    by (Going confirmed are) = Going confirmed are

-- what lets a frame go
pub record MayGo (end : ScheduledEnd) : Type 0 where
  pub confirmed : end.confirmed ≡ true
  pub some : 0 < length end.window.pending
  pub room : length end.window.flying < end.window.size

both_true : (a b : Bool) → (a && b) ≡ true → (a ≡ true) × (b ≡ true)
both_true true b e = (refl, e)
both_true false b e = absurd cc

not_none : {X : Type 0} (items : List X) → not (is_none items) ≡ true → 0 < length items
not_none [] e = absurd cc
not_none (x ∷ items) e = omega arith

-- some step waits
pub some_waits : (end : ScheduledEnd) → can_send end ≡ true → 0 < length end.window.pending
some_waits end can =
    let first = both_true end.confirmed (not (is_none end.window.pending) && has_room end.window) can in
    not_none end.window.pending (both_true (not (is_none end.window.pending)) (has_room end.window) first.1).0

pub may_go : (end : ScheduledEnd) → end.window.suspended ≡ false → can_send end ≡ true → MayGo end
may_go end watched can =
    let first = both_true end.confirmed (not (is_none end.window.pending) && has_room end.window) can in
    let second = both_true (not (is_none end.window.pending)) (has_room end.window) first.1 in
    record { confirmed = first.0; some = not_none end.window.pending second.0; room = ltb-true (length end.window.flying) end.window.size (ap (λ b. b || nat_lt (length end.window.flying) end.window.size) (sym watched) ∙ second.1) }

-- once it goes, it goes on
still_going : (start : Start) (script : Script) (old new : ScheduledEnd) (drawn coming more : List Flight) (words : List ClientPdu) → old.confirmed ≡ true → new.confirmed ≡ true → Phase start script old drawn coming words → Phase start script new drawn more words
still_going start script old new drawn coming more words was is (Greeting unconfirmed at none_drawn none_coming are) = absurd (let first : old.confirmed ≡ false = unconfirmed.1 in cc)
still_going start script old new drawn coming more words was is (Going confirmed are) = Going is are

-- the steps up to the last that was queued
shown_front : (kinded gone waiting left : List KindedStep) (last : ℕ) → kinded ≡ gone ++ (waiting ++ left) → last ≡ length gone + length waiting → take last kinded ≡ gone ++ waiting
shown_front kinded gone waiting left last cut is =
    let count : last ≡ length (gone ++ waiting) = omega (arith, is, length-append gone waiting) in
    ap (λ n. take n kinded) count ∙ ap (take (length (gone ++ waiting))) (cut ∙ sym (append_assoc gone waiting left)) ∙ take-append_seam (gone ++ waiting) left

-- the server's end shows what the steps up to a number want
shows_front : (start : Start) (script : Script) (kinded : List KindedStep) (last : ℕ) (gone : List KindedStep) (server : Planned) (after : Held) → take last kinded ≡ gone → Holds script after server
    → Agree server (want_from script start.wanted gone) → ShowsWanted server.state (wanted_at start script kinded last)
shows_front start script kinded last gone server after is holds agrees =
    subst (λ z. ShowsWanted server.state (want_from script start.wanted z)) (sym is) record {
      shown = agrees.shown;
      slots = agrees.slots;
      tiles = subst (λ (p : Passes). HoldsLive p.live server.state.records) agrees.passes (has-records script.setting _ _ _ holds.tiles);
    }

-- a frame goes
pub sending : (R : State → State → Type 0) (start : Start) (script : Script) (kinded : List KindedStep) (w : World) → Begins R start script → Fits kinded script.steps → can_send w.server ≡ true → Keeps R start script kinded w
    → Keeps R start script kinded (record w { server = with_sent w.server (after_frame script w.server.server (due script w.server)); down = w.down ++ sent (frame_of script w.server.server (due script w.server)) })
unfolding with_sent
sending R start script kinded w good fits can keeps =
    let end : ScheduledEnd = w.server in
    let may = may_go end keeps.flying.watched can in
    let plan = keeps.plan in
    let next = ahead start script kinded end keeps.gone keeps.waiting good.good fits plan in
    let frame = joins start script kinded end keeps.gone keeps.waiting good.good fits plan next in
    let some : 0 < length keeps.waiting = omega (arith, may.some, ap length plan.pending, length-numbered (length keeps.gone + 1) keeps.waiting) in
    let server = after_frame script end.server (due script end) in
    let pdus : List Pdu = frame_of script end.server (due script end) in
    let more = λ (last : State). flight_of server end.last last ∷ [] in
    let f = follows R (run_from w.start w.taken) w.down end.server.state server.state keeps.coming pdus more keeps.downward frame.carried (λ client related. extends R good.alike script end.server (due script end) next.after _ end.last client frame related) in
    let flight : Flight = flight_of server end.last f.last in
    let in_flight : end.window.flying ++ watched end.window.suspended (flight.sent_as ∷ []) ≡ end.window.flying ++ flight.sent_as ∷ [] = ap (λ b. end.window.flying ++ watched b (flight.sent_as ∷ [])) keeps.flying.watched in
    let steps : List ℕ = map (λ (a : Acknowledged). a.step) w.acks ++ map step_of (keeps.drawn ++ keeps.coming) in
    let all : keeps.drawn ++ (keeps.coming ++ flight ∷ []) ≡ (keeps.drawn ++ keeps.coming) ++ flight ∷ [] = sym (append_assoc keeps.drawn keeps.coming (flight ∷ [])) in
    let gone : List KindedStep = keeps.gone ++ keeps.waiting in
    let steps_are : map (λ (a : Acknowledged). a.step) w.acks ++ map step_of (keeps.drawn ++ (keeps.coming ++ flight ∷ [])) ≡ steps ++ end.last ∷ [] =
    ap (λ z. map (λ (a : Acknowledged). a.step) w.acks ++ map step_of z) all ∙ ap (λ z. map (λ (a : Acknowledged). a.step) w.acks ++ z) (map-append step_of (keeps.drawn ++ keeps.coming) (flight ∷ []))
    ∙ sym (append_assoc (map (λ (a : Acknowledged). a.step) w.acks) (map step_of (keeps.drawn ++ keeps.coming)) (end.last ∷ [])) in
    let shown_to : take end.last kinded ≡ gone = shown_front kinded keeps.gone keeps.waiting end.left end.last plan.cut plan.last in
    record {
      started = keeps.started;
      gone = gone;
      waiting = [];
      plan = goes start script kinded end keeps.gone keeps.waiting plan next some frame;
      drawn = keeps.drawn;
      coming = keeps.coming ++ flight ∷ [];
      flying = record {
        flying = in_flight ∙ ap (λ z. z ++ flight.sent_as ∷ []) keeps.flying.flying ∙ sym (map-append (λ (f : Flight). f.sent_as) (keeps.drawn ++ keeps.coming) (flight ∷ [])) ∙ ap (map (λ (f : Flight). f.sent_as)) (sym all);
        ends = ap (λ b. end.ends ++ watched b (server.state ∷ [])) keeps.flying.watched ∙ ap (λ z. z ++ server.state ∷ []) keeps.flying.ends ∙ sym (map-append (λ (f : Flight). f.server) (keeps.drawn ++ keeps.coming) (flight ∷ [])) ∙ ap (map (λ (f : Flight). f.server)) (sym all);
        watched = keeps.flying.watched;
      };
      numbered = subst (λ n. IsUpTo n (end.window.flying ++ watched end.window.suspended (flight.sent_as ∷ []))) (sym frame.frames) (subst (IsUpTo (end.server.frames + 1)) (sym in_flight) (upto-more end.server.frames end.window.flying flight.sent_as frame.frames keeps.numbered));
      flights = subst (AllByRecursion (IsFlight R start script kinded)) (sym all) (all_both (IsFlight R start script kinded) (keeps.drawn ++ keeps.coming) (flight ∷ []) keeps.flights (
        record {
          related = f.related;
          shows = shows_front start script kinded end.last gone server next.after shown_to frame.holds frame.agrees;
          fits = record { frame = omega (arith, frame.frames, plan.frames, next.few, good.good.few); decoded = subst (λ n. n < 2 ^ 32) (good.alike.decoded server.state f.last f.related) (decoded_fits script end.server (due script end) next.after _ frame) };
        },
        tt,
      ));
      downward = f.downward;
      words = keeps.words;
      upward = record { goes_on = keeps.upward.goes_on; short = keeps.upward.short; bytes_are = keeps.upward.bytes_are; carried = keeps.upward.carried };
      phase = still_going start script end (with_sent end server) keeps.drawn keeps.coming (keeps.coming ++ flight ∷ []) keeps.words may.confirmed may.confirmed keeps.phase;
      drawn_are = keeps.drawn_are;
      there = keeps.there;
      acks = keeps.acks;
      size = keeps.size;
      window = omega (arith, may.room, keeps.size, ap length in_flight, length-append end.window.flying (flight.sent_as ∷ []));
      rising = subst (AreRising 0) (sym steps_are) (rises_on 0 (length keeps.gone) end.last steps keeps.rising keeps.within (omega arith) (omega (arith, plan.last, some)));
      within = subst (AllByRecursion (λ step. step ≤ length gone)) (sym steps_are)
          (all_both (λ step. step ≤ length gone) steps (end.last ∷ []) (all_within (length keeps.gone) (length gone) steps (omega (arith, length-append keeps.gone keeps.waiting)) keeps.within) (omega (arith, plan.last, length-append keeps.gone keeps.waiting), tt));
    }

pub sends_yes : (script : Script) (end : ScheduledEnd) → can_send end ≡ true
    → (sends script end ≡ with_sent end (after_frame script end.server (due script end))) × (bytes_sent script end ≡ sent (frame_of script end.server (due script end)))
unfolding sends bytes_sent
sends_yes script end can = (
  ap (λ b. cond b (with_sent end (after_frame script end.server (due script end))) end) can,
  ap (λ b. cond b (sent (frame_of script end.server (due script end))) []) can,
)

pub sends_no : (script : Script) (end : ScheduledEnd) → can_send end ≡ false → (sends script end ≡ end) × (bytes_sent script end ≡ [])
unfolding sends bytes_sent
sends_no script end can = (
  ap (λ b. cond b (with_sent end (after_frame script end.server (due script end))) end) can,
  ap (λ b. cond b (sent (frame_of script end.server (due script end))) []) can,
)

pub serving : (R : State → State → Type 0) (start : Start) (script : Script) (kinded : List KindedStep) (w : World) → Begins R start script → Fits kinded script.steps → Keeps R start script kinded w → Keeps R start script kinded (server_turns script w)
unfolding server_turns
serving R start script kinded w good fits keeps =
    let ready : World = record w { server = queued w.server } in
    let first = queueing R start script kinded w keeps in
    elim (cases_Bool (can_send ready.server)) [
      | inl can ↦
          let is = sends_yes script ready.server can in
          subst (Keeps R start script kinded) (λ i. record w { server = sym is.0 i; down = w.down ++ sym is.1 i }) (sending R start script kinded ready good fits can first)
      | inr can ↦
          let is = sends_no script ready.server can in
          subst (Keeps R start script kinded) (λ i. record w { server = sym is.0 i; down = (sym (append-nil w.down) ∙ ap (λ z. w.down ++ z) (sym is.1)) i }) first
    ]

-- the server's end takes bytes -------------------------------------------------------------------------------------

-- it has taken some acknowledgements: what they say
acked : (R : State → State → Type 0) (start : Start) (script : Script) (kinded : List KindedStep) (done : List Flight) (left : List State) → AllByRecursion (IsFlight R start script kinded) done
    → AllByRecursion (IsSeen R start script kinded) (acknowledgements (map (λ (f : Flight). f.sent_as) done) (map (λ (f : Flight). f.server) done) (map (λ (f : Flight). f.client) done ++ left))
acked R start script kinded [] left all = tt
acked R start script kinded (flight ∷ done) left all = (
  record { related = all.0.related; shows = all.0.shows },
  acked R start script kinded done left all.1,
)

pairs_acked : (done : List Flight) (left : List State)
    → map (λ (a : Acknowledged). (a.frame, a.client)) (acknowledgements (map (λ (f : Flight). f.sent_as) done) (map (λ (f : Flight). f.server) done) (map (λ (f : Flight). f.client) done ++ left)) ≡ map pair_of done
pairs_acked [] left = refl
pairs_acked (flight ∷ done) left = ap (λ z. pair_of flight ∷ z) (pairs_acked done left)

steps_acked : (done : List Flight) (left : List State)
    → map (λ (a : Acknowledged). a.step) (acknowledgements (map (λ (f : Flight). f.sent_as) done) (map (λ (f : Flight). f.server) done) (map (λ (f : Flight). f.client) done ++ left)) ≡ map step_of done
steps_acked [] left = refl
steps_acked (flight ∷ done) left = ap (λ z. step_of flight ∷ z) (steps_acked done left)

-- what a client says changes nothing of what is queued
heard_plan : (start : Start) (script : Script) (kinded : List KindedStep) (end : ScheduledEnd) (gone waiting : List KindedStep) (flying : List Sent) (ends : List State) (held : List ℕ) (confirmed : Bool) → InPlanFrom start script kinded end gone waiting
    → InPlanFrom start script kinded (record end { window = record end.window { flying = flying }; ends = ends; heard = held; confirmed = confirmed }) gone waiting
heard_plan start script kinded end gone waiting flying ends held confirmed plan =
    record { cut = plan.cut; last = plan.last; pending = plan.pending; held = plan.held; checked = plan.checked; holds = plan.holds; agrees = plan.agrees; frame = plan.frame; frames = plan.frames }

-- what is held of a message that isn't whole is read by none
held_again : (script : Script) (heard : Heard) (words : List ClientPdu) (held : List ℕ) → holding (tells script heard words) held ≡ holding (tells script (holding heard []) words) held
held_again script heard [] held = refl
held_again script heard (word ∷ words) held = refl

-- it hears of frames that the client has drawn
pub record HearsFrames (script : Script) (w : World) (drawn coming : List Flight) (bytes behind : List ℕ) : Type 0 where
  pub now : List Flight
  pub later : List Flight
  pub cut : drawn ≡ now ++ later
  pub held : List ℕ
  pub is : hears script (listening w.server) bytes ≡ holding (having (holding (listening w.server) []) now (later ++ coming)) held
  pub listens : IsListening script (hears script (listening w.server) bytes) behind (map word_of later)

pub frames_heard : (R : State → State → Type 0) (start : Start) (script : Script) (kinded : List KindedStep) (w : World) (bytes behind : List ℕ) → w.up ≡ bytes ++ behind → (keeps : Keeps R start script kinded w) → keeps.words ≡ map word_of keeps.drawn
    → HearsFrames script w keeps.drawn keeps.coming bytes behind
frames_heard R start script kinded w bytes behind cut keeps are =
    let end : ScheduledEnd = w.server in
    let taken = subst (TakesAll script (listening end)) (sym are) (takes_all script (listening end) keeps.drawn keeps.coming keeps.upward.goes_on keeps.flying) in
    let h = words_are_heard_in_pieces script (listening end) bytes behind keeps.words (record {
      goes_on = keeps.upward.goes_on;
      short = keeps.upward.short;
      bytes_are = ap (λ z. end.heard ++ z) (sym cut) ∙ keeps.upward.bytes_are;
      carried = keeps.upward.carried;
      taken = taken;
    }) in
    let s = splits word_of keeps.drawn h.done h.left (sym are ∙ h.cut) in
    let all : keeps.drawn ++ keeps.coming ≡ s.first ++ (s.second ++ keeps.coming) = ap (λ z. z ++ keeps.coming) s.cut ∙ append_assoc s.first s.second keeps.coming in
    let flying = subst (HasFlying end) all keeps.flying in
    record {
      now = s.first;
      later = s.second;
      cut = s.cut;
      held = h.held;
      is =
          h.is ∙ held_again script (listening end) h.done h.held ∙ ap (λ z. holding (tells script (holding (listening end) []) z) h.held) (sym s.first_is)
          ∙ ap (λ z. holding z h.held) (tells_all script (holding (listening end) []) s.first (s.second ++ keeps.coming) refl (record { flying = flying.flying; ends = flying.ends; watched = flying.watched }));
      listens = subst (IsListening script (hears script (listening end) bytes) behind) (sym s.second_is) h.listens;
    }

hears_frames : (R : State → State → Type 0) (start : Start) (script : Script) (kinded : List KindedStep) (w : World) (bytes behind : List ℕ) → w.up ≡ bytes ++ behind → (keeps : Keeps R start script kinded w) → w.server.confirmed ≡ true → keeps.words ≡ map word_of keeps.drawn
    → Keeps R start script kinded (server_heard w (hears script (listening w.server) bytes) behind)
unfolding server_heard
hears_frames R start script kinded w bytes behind cut keeps confirmed are =
    let end : ScheduledEnd = w.server in
    let s = frames_heard R start script kinded w bytes behind cut keeps are in
    let now : List Flight = s.now in
    let later : List Flight = s.later in
    let all : keeps.drawn ++ keeps.coming ≡ now ++ (later ++ keeps.coming) = ap (λ z. z ++ keeps.coming) s.cut ∙ append_assoc now later keeps.coming in
    let flying = subst (HasFlying end) all keeps.flying in
    let flights = subst (AllByRecursion (IsFlight R start script kinded)) all keeps.flights in
    let is = s.is in
    let listens = subst (λ z. IsListening script z behind (map word_of later)) is s.listens in
    let clients : w.drawn ≡ map (λ (f : Flight). f.client) now ++ map (λ (f : Flight). f.client) later = keeps.drawn_are ∙ ap (map (λ (f : Flight). f.client)) s.cut ∙ map-append (λ (f : Flight). f.client) now later in
    let acks = acknowledgements (map (λ (f : Flight). f.sent_as) now) (map (λ (f : Flight). f.server) now) w.drawn in
    let acks_are : acks ≡ acknowledgements (map (λ (f : Flight). f.sent_as) now) (map (λ (f : Flight). f.server) now) (map (λ (f : Flight). f.client) now ++ map (λ (f : Flight). f.client) later) =
    ap (acknowledgements (map (λ (f : Flight). f.sent_as) now) (map (λ (f : Flight). f.server) now)) clients in
    let pairs : map (λ (a : Acknowledged). (a.frame, a.client)) (w.acks ++ acks) ≡ map (λ (a : Acknowledged). (a.frame, a.client)) w.acks ++ map pair_of now =
    map-append (λ (a : Acknowledged). (a.frame, a.client)) w.acks acks
    ∙ ap (λ z. map (λ (a : Acknowledged). (a.frame, a.client)) w.acks ++ map (λ (a : Acknowledged). (a.frame, a.client)) z) acks_are ∙ ap (λ z. map (λ (a : Acknowledged). (a.frame, a.client)) w.acks ++ z) (pairs_acked now _) in
    let steps_are : map (λ (a : Acknowledged). a.step) w.acks ++ map step_of (keeps.drawn ++ keeps.coming) ≡ map (λ (a : Acknowledged). a.step) (w.acks ++ acks) ++ map step_of (later ++ keeps.coming) =
    ap (λ z. map (λ (a : Acknowledged). a.step) w.acks ++ map step_of z) all ∙ ap (λ z. map (λ (a : Acknowledged). a.step) w.acks ++ z) (map-append step_of now (later ++ keeps.coming))
    ∙ sym (append_assoc (map (λ (a : Acknowledged). a.step) w.acks) (map step_of now) (map step_of (later ++ keeps.coming)))
    ∙ ap (λ z. (map (λ (a : Acknowledged). a.step) w.acks ++ z) ++ map step_of (later ++ keeps.coming)) (sym (ap (map (λ (a : Acknowledged). a.step)) acks_are ∙ steps_acked now _))
    ∙ ap (λ z. z ++ map step_of (later ++ keeps.coming)) (sym (map-append (λ (a : Acknowledged). a.step) w.acks acks)) in
    let count : length (map (λ (f : Flight). f.client) now) ≡ length (map (λ (f : Flight). f.sent_as) now) = length-map now (λ (f : Flight). f.client) ∙ sym (length-map now (λ (f : Flight). f.sent_as)) in
    let left_in : drop (length (map (λ (f : Flight). f.sent_as) now)) w.drawn ≡ map (λ (f : Flight). f.client) later =
    ap (λ n. drop n w.drawn) (sym count) ∙ ap (drop (length (map (λ (f : Flight). f.client) now))) clients ∙ drop-append_seam (map (λ (f : Flight). f.client) now) (map (λ (f : Flight). f.client) later) in
    let fewer : length (map (λ (f : Flight). f.sent_as) (later ++ keeps.coming)) ≤ length end.window.flying =
    omega (arith, ap length flying.flying, length-map (later ++ keeps.coming) (λ (f : Flight). f.sent_as), length-map (now ++ (later ++ keeps.coming)) (λ (f : Flight). f.sent_as), length-append now (later ++ keeps.coming)) in
    subst (λ z. Keeps R start script kinded (server_heard w z behind)) (sym is) record {
      started = keeps.started;
      gone = keeps.gone;
      waiting = keeps.waiting;
      plan = heard_plan start script kinded end keeps.gone keeps.waiting (map (λ (f : Flight). f.sent_as) (later ++ keeps.coming)) (map (λ (f : Flight). f.server) (later ++ keeps.coming)) s.held end.confirmed keeps.plan;
      drawn = later;
      coming = keeps.coming;
      flying = record { flying = refl; ends = refl; watched = keeps.flying.watched };
      numbered = upto-behind end.server.frames (map (λ (f : Flight). f.sent_as) now) (map (λ (f : Flight). f.sent_as) (later ++ keeps.coming)) (subst (IsUpTo end.server.frames) (flying.flying ∙ map-append (λ (f : Flight). f.sent_as) now (later ++ keeps.coming)) keeps.numbered);
      flights = all_behind (IsFlight R start script kinded) now (later ++ keeps.coming) flights;
      downward = subst (λ z. Downward R (run_from w.start w.taken) z end.server.state keeps.coming) (sym (append-nil w.down)) keeps.downward;
      words = map word_of later;
      upward = record { goes_on = listens.goes_on; short = listens.short; bytes_are = listens.bytes_are; carried = listens.carried };
      phase = Going confirmed refl;
      drawn_are = left_in;
      there =
          keeps.there ∙ ap (λ z. map (λ (a : Acknowledged). (a.frame, a.client)) w.acks ++ map pair_of z) s.cut ∙ ap (λ z. map (λ (a : Acknowledged). (a.frame, a.client)) w.acks ++ z) (map-append pair_of now later)
          ∙ sym (append_assoc (map (λ (a : Acknowledged). (a.frame, a.client)) w.acks) (map pair_of now) (map pair_of later)) ∙ ap (λ z. z ++ map pair_of later) (sym pairs);
      acks = all_both (IsSeen R start script kinded) w.acks acks keeps.acks (subst (AllByRecursion (IsSeen R start script kinded)) (sym acks_are) (acked R start script kinded now _ (all_front (IsFlight R start script kinded) now _ flights)));
      size = keeps.size;
      window = omega (arith, fewer, keeps.window);
      rising = subst (AreRising 0) steps_are keeps.rising;
      within = subst (AllByRecursion (λ step. step ≤ length keeps.gone)) steps_are keeps.within;
    }

-- it hears of the versions that the client offers ------------------------------------------------------------------

-- what it has heard of that message
pub data Offered (script : Script) (w : World) (heard : Heard) (left : List ClientPdu) : Type 0 where
  NotYet : (held : List ℕ) → heard ≡ holding (listening w.server) held → left ≡ advertised script.offers ∷ [] → Offered script w heard left
  Now : (held : List ℕ) → heard ≡ holding (tell script (listening w.server) (advertised script.offers)) held → left ≡ [] → Offered script w heard left

offered : (script : Script) (w : World) (heard : Heard) (held : List ℕ) (done left : List ClientPdu) → advertised script.offers ∷ [] ≡ done ++ left → heard ≡ holding (tells script (listening w.server) done) held → Offered script w heard left
offered script w heard held [] left cut is = NotYet held is (sym cut)
offered script w heard held (word ∷ done) left cut is =
    let rest : [] ≡ done ++ left = cc in
    let none = nil_parts done left (sym rest) in
    let same : advertised script.offers ≡ word = cc in
    Now held (is ∙ ap (λ z. holding (tells script (listening w.server) (word ∷ z)) held) none.0 ∙ ap (λ z. holding (tell script (listening w.server) z) held) (sym same)) none.1

pub record HearsOffers (script : Script) (w : World) (bytes behind : List ℕ) : Type 0 where
  pub left : List ClientPdu
  pub offered : Offered script w (hears script (listening w.server) bytes) left
  pub listens : IsListening script (hears script (listening w.server) bytes) behind left

pub offers_heard : (R : State → State → Type 0) (start : Start) (script : Script) (kinded : List KindedStep) (w : World) (bytes behind : List ℕ) → Begins R start script → w.up ≡ bytes ++ behind → (keeps : Keeps R start script kinded w) → keeps.words ≡ advertised script.offers ∷ []
    → HearsOffers script w bytes behind
offers_heard R start script kinded w bytes behind good cut keeps are =
    let end : ScheduledEnd = w.server in
    let c = confirms script start.held good.good in
    let told_is = tell_offers script (listening end) c in
    let taken : TakesAll script (listening end) (advertised script.offers ∷ []) = (ap (λ z. z.end.stopped) told_is ∙ keeps.upward.goes_on, tt) in
    let h = words_are_heard_in_pieces script (listening end) bytes behind keeps.words (record {
      goes_on = keeps.upward.goes_on;
      short = keeps.upward.short;
      bytes_are = ap (λ z. end.heard ++ z) (sym cut) ∙ keeps.upward.bytes_are;
      carried = keeps.upward.carried;
      taken = subst (TakesAll script (listening end)) (sym are) taken;
    }) in
    record { left = h.left; offered = offered script w (hears script (listening end) bytes) h.held h.done h.left (sym are ∙ h.cut) h.is; listens = h.listens }

hears_offers : (R : State → State → Type 0) (start : Start) (script : Script) (kinded : List KindedStep) (w : World) (bytes behind : List ℕ) → Begins R start script → w.up ≡ bytes ++ behind → (keeps : Keeps R start script kinded w) → (start.confirmed ≡ false) × (w.server.confirmed ≡ false) → w.server.server ≡ start.server
    → keeps.drawn ≡ [] → keeps.coming ≡ [] → keeps.words ≡ advertised script.offers ∷ [] → Keeps R start script kinded (server_heard w (hears script (listening w.server) bytes) behind)
unfolding server_heard
hears_offers R start script kinded w bytes behind good cut keeps unconfirmed at none_drawn none_coming are =
    let h = offers_heard R start script kinded w bytes behind good cut keeps are in
    by h.left h.offered (λ heard is. subst (λ z. IsListening script z behind h.left) is h.listens)
  where
    by : (left : List ClientPdu) → Offered script w (hears script (listening w.server) bytes) left → ((heard : Heard) → hears script (listening w.server) bytes ≡ heard → IsListening script heard behind left)
        → Keeps R start script kinded (server_heard w (hears script (listening w.server) bytes) behind)
    by left (NotYet held is left_is) kept =
        let listens = kept (holding (listening w.server) held) is in
        subst (λ z. Keeps R start script kinded (server_heard w z behind)) (sym is) record {
          started = keeps.started;
          gone = keeps.gone;
          waiting = keeps.waiting;
          plan = heard_plan start script kinded w.server keeps.gone keeps.waiting w.server.window.flying w.server.ends held w.server.confirmed keeps.plan;
          drawn = keeps.drawn;
          coming = keeps.coming;
          flying = record { flying = keeps.flying.flying; ends = keeps.flying.ends; watched = keeps.flying.watched };
          numbered = keeps.numbered;
          flights = keeps.flights;
          downward = subst (λ z. Downward R (run_from w.start w.taken) z w.server.server.state keeps.coming) (sym (append-nil w.down)) keeps.downward;
          words = left;
          upward = record { goes_on = listens.goes_on; short = listens.short; bytes_are = listens.bytes_are; carried = listens.carried };
          phase = Greeting unconfirmed at none_drawn none_coming left_is;
          drawn_are = keeps.drawn_are;
          there = keeps.there ∙ ap (λ z. map (λ (a : Acknowledged). (a.frame, a.client)) z ++ map pair_of keeps.drawn) (sym (append-nil w.acks));
          acks = subst (AllByRecursion (IsSeen R start script kinded)) (sym (append-nil w.acks)) keeps.acks;
          size = keeps.size;
          window = keeps.window;
          rising = subst (λ z. AreRising 0 (map (λ (a : Acknowledged). a.step) z ++ map step_of (keeps.drawn ++ keeps.coming))) (sym (append-nil w.acks)) keeps.rising;
          within = subst (λ z. AllByRecursion (λ step. step ≤ length keeps.gone) (map (λ (a : Acknowledged). a.step) z ++ map step_of (keeps.drawn ++ keeps.coming))) (sym (append-nil w.acks)) keeps.within;
        }
    by left (Now held is left_is) kept =
        let c = confirms script start.held good.good in
        let told_is = tell_offers script (listening w.server) c in
        let is_now = is ∙ ap (λ z. holding z held) told_is in
        let listens = kept _ is_now in
        let state_is : w.server.server.state ≡ start.server.state = ap (λ z. z.state) at in
        let f = follows R (run_from w.start w.taken) w.down w.server.server.state w.server.server.state keeps.coming (confirm c.chosen ∷ []) (λ last. []) keeps.downward (c.carried, tt)
        (λ client related. subst (λ z. Extends R client z (confirm c.chosen ∷ []) (λ last. [])) (sym state_is) (good.greets unconfirmed.0 c client (subst (λ z. R z client) state_is related))) in
        subst (λ z. Keeps R start script kinded (server_heard w z behind)) (sym is_now) record {
          started = keeps.started;
          gone = keeps.gone;
          waiting = keeps.waiting;
          plan = heard_plan start script kinded w.server keeps.gone keeps.waiting w.server.window.flying w.server.ends held true keeps.plan;
          drawn = keeps.drawn;
          coming = keeps.coming;
          flying = record { flying = keeps.flying.flying; ends = keeps.flying.ends; watched = keeps.flying.watched };
          numbered = keeps.numbered;
          flights = keeps.flights;
          downward = subst (Downward R (run_from w.start w.taken) (w.down ++ sent (confirm c.chosen ∷ [])) w.server.server.state) (append-nil keeps.coming) f.downward;
          words = left;
          upward = record { goes_on = listens.goes_on; short = listens.short; bytes_are = listens.bytes_are; carried = listens.carried };
          phase = Going refl (left_is ∙ sym (ap (map word_of) none_drawn));
          drawn_are = keeps.drawn_are;
          there = keeps.there ∙ ap (λ z. map (λ (a : Acknowledged). (a.frame, a.client)) z ++ map pair_of keeps.drawn) (sym (append-nil w.acks));
          acks = subst (AllByRecursion (IsSeen R start script kinded)) (sym (append-nil w.acks)) keeps.acks;
          size = keeps.size;
          window = keeps.window;
          rising = subst (λ z. AreRising 0 (map (λ (a : Acknowledged). a.step) z ++ map step_of (keeps.drawn ++ keeps.coming))) (sym (append-nil w.acks)) keeps.rising;
          within = subst (λ z. AllByRecursion (λ step. step ≤ length keeps.gone) (map (λ (a : Acknowledged). a.step) z ++ map step_of (keeps.drawn ++ keeps.coming))) (sym (append-nil w.acks)) keeps.within;
        }

pub hearing : (R : State → State → Type 0) (start : Start) (script : Script) (kinded : List KindedStep) (w : World) (bytes behind : List ℕ) → Begins R start script → w.up ≡ bytes ++ behind → Keeps R start script kinded w → Keeps R start script kinded (server_heard w (hears script (listening w.server) bytes) behind)
hearing R start script kinded w bytes behind good cut keeps = by keeps.phase
  where
    by : Phase start script w.server keeps.drawn keeps.coming keeps.words → Keeps R start script kinded (server_heard w (hears script (listening w.server) bytes) behind)
    by (Greeting unconfirmed at none_drawn none_coming are) = hears_offers R start script kinded w bytes behind good cut keeps unconfirmed at none_drawn none_coming are
    by (Going confirmed are) = hears_frames R start script kinded w bytes behind cut keeps confirmed are

-- all turns ---------------------------------------------------------------------------------------------------------

pub turning : (R : State → State → Type 0) (start : Start) (script : Script) (kinded : List KindedStep) (w : World) (turn : Turn) → Begins R start script → Fits kinded script.steps → Keeps R start script kinded w → Keeps R start script kinded (happens script w turn)
unfolding happens
turning R start script kinded w Server good fits keeps = serving R start script kinded w good fits keeps
turning R start script kinded w (Client most) good fits keeps = takes R start script kinded w (take most w.down) (drop most w.down) (sym (take-append-drop most w.down)) keeps
turning R start script kinded w (Answer most) good fits keeps = hearing R start script kinded w (take most w.up) (drop most w.up) good (sym (take-append-drop most w.up)) keeps

versions_fit : (offers : List Offer) → AllByRecursion IsOffer offers → AllByRecursion (λ (offer : Offer). offer.version < 2 ^ 32) offers
versions_fit [] all = tt
versions_fit (offer ∷ offers) all = (version_fits offer all.0, versions_fit offers all.1)

held_through-start : (held : Held) → held_through held [] ≡ Ok held
unfolding held_through
held_through-start held = refl

-- what the client says first, where no version is confirmed
abbrev words_first : Bool → Script → List ClientPdu
words_first confirmed script = if confirmed then [] else advertised script.offers ∷ []

first_upward : (end : ScheduledEnd) (confirmed : Bool) (script : Script) (held : Held) → IsAcceptedFrom held script → end.stopped ≡ None → end.heard ≡ [] → Upward end (greeting confirmed script) (words_first confirmed script)
first_upward end true script held good goes_on none =
    record { goes_on = goes_on; short = ap front none ∙ front-nil; bytes_are = ap (λ z. z ++ []) none; carried = tt }
first_upward end false script held good goes_on none = record {
  goes_on = goes_on;
  short = ap front none ∙ front-nil;
  bytes_are = ap (λ z. z ++ alone (advertised script.offers)) none ∙ sym (append-nil (alone (advertised script.offers)));
  carried = (λ more. hello_read script.offers more (omega (arith, good.few_offers)) (versions_fit script.offers good.offers), tt);
}

first_phase : (start : Start) (script : Script) (kinded : List KindedStep) (confirmed : Bool) → start.confirmed ≡ confirmed → Phase start script (server_end_from start script kinded) [] [] (words_first confirmed script)
first_phase start script kinded true is = Going is refl
first_phase start script kinded false is = Greeting (is, is) refl refl refl refl

pub beginning : (R : State → State → Type 0) (start : Start) (script : Script) (kinded : List KindedStep) → Begins R start script → Fits kinded script.steps → Keeps R start script kinded (begin_from start script kinded)
beginning R start script kinded good fits =
    let run : Run = begun_from start.client in
    record {
      started = refl;
      gone = [];
      waiting = [];
      plan = record {
        cut = refl;
        last = refl;
        pending = refl;
        held = start.held;
        checked = held_through-start start.held;
        holds = good.may.holds;
        agrees = good.may.agrees;
        frame = good.may.closed;
        frames = omega (arith, good.may.frames);
      };
      drawn = [];
      coming = [];
      flying = record { flying = refl; ends = refl; watched = refl };
      numbered = tt;
      flights = tt;
      downward = record {
        todo = [];
        last = start.client;
        inside = record {
          goes_on = ap (λ z. z.refusal) (eats-nil run);
          short = ap (λ z. front z.rest) (eats-nil run) ∙ front-nil;
          bytes_are = ap (λ z. z.rest ++ []) (eats-nil run) ∙ sym sent-nil;
          carried = tt;
          accepted = ap (λ z. all_steps z.state []) (eats-nil run) ∙ all_steps-none start.client;
        };
        related = good.related;
        frames = ap frames_of (nothing (run_from start.client []).state);
      };
      words = words_first start.confirmed script;
      upward = first_upward (server_end_from start script kinded) start.confirmed script start.held good.good refl refl;
      phase = first_phase start script kinded start.confirmed refl;
      drawn_are = refl;
      there = ap frames_of (history-nil run);
      acks = tt;
      size = refl;
      window = omega arith;
      rising = tt;
      within = tt;
    }

pub all_turns : (R : State → State → Type 0) (start : Start) (script : Script) (kinded : List KindedStep) (w : World) (turns : List Turn) → Begins R start script → Fits kinded script.steps → Keeps R start script kinded w → Keeps R start script kinded (fold (happens script) w turns)
all_turns R start script kinded w [] good fits keeps = keeps
all_turns R start script kinded w (turn ∷ turns) good fits keeps = all_turns R start script kinded (happens script w turn) turns good fits (turning R start script kinded w turn good fits keeps)

-- from any start
pub keeps_from : (R : State → State → Type 0) (start : Start) (script : Script) (kinded : List KindedStep) (turns : List Turn) → Begins R start script → Fits kinded script.steps
    → Keeps R start script kinded (world_from start script kinded turns)
keeps_from R start script kinded turns good fits = all_turns R start script kinded (begin_from start script kinded) turns good fits (beginning R start script kinded good fits)

-- the relation of states whose limits may be wider is kept by the confirmation of a version, too
pub begins_wider : (start : Start) (script : Script) → IsAcceptedFrom start.held script → MayStart script start → Wider start.server.state start.client → Begins Wider start script
begins_wider start script good may wider = record {
  good = good;
  may = may;
  alike = wider_alike;
  related = wider;
  greets = λ unconfirmed c client w. confirm_extends Wider script c start.server.state client record {
    shown = w.shown;
    slots = w.slots;
    clear = w.clear;
    records = w.records;
    frame = w.frame;
    decoded = w.decoded;
    only_small = λ small. ap (λ z. z.state.cache.small) (may.greets unconfirmed) ∙ small;
  };
}

-- and so is that of states that are alike
pub begins_alike : (start : Start) (script : Script) (kinded : List KindedStep) → MayBegin start script kinded → Begins Alike start script
begins_alike start script kinded may = record {
  good = may.accepted;
  may = may.may;
  alike = alike_steps;
  related = may.alike;
  greets = λ unconfirmed c client a. confirm_extends Alike script c start.server.state client record {
    surfaces = a.surfaces;
    output = a.output;
    maps = a.maps;
    slots = a.slots;
    rings = a.rings;
    glyphs = a.glyphs;
    expected = a.expected;
    records = a.records;
    frame = a.frame;
    decoded = a.decoded;
    only_small = λ small. ap (λ z. z.state.cache.small) (may.may.greets unconfirmed) ∙ small;
  };
}

pub every_schedule_from : EveryScheduleFrom
every_schedule_from start script kinded turns good fits may wider =
    promised start script kinded (world_from start script kinded turns) (keeps_from Wider start script kinded turns (begins_wider start script good may wider) fits)

-- nothing before is a start
pub may_start : (script : Script) → IsAccepted script → MayStart script (from_nothing script)
may_start script good = record {
  holds = (stands_at_start script good).holds;
  agrees = (stands_at_start script good).agrees;
  closed = refl;
  frames = refl;
  greets = λ unconfirmed. refl;
}

pub begins : (script : Script) → IsAccepted script → Begins Wider (from_nothing script) script
begins script good = begins_wider (from_nothing script) script good (may_start script good) (started_fresh script.small)

pub every_schedule : EverySchedule
every_schedule script kinded turns good fits = every_schedule_from (from_nothing script) script kinded turns good fits (may_start script good) (started_fresh script.small)

-- a session may begin so
pub may_begin : (script : Script) (kinded : List KindedStep) → IsAccepted script → Fits kinded script.steps → MayBegin (from_nothing script) script kinded
may_begin script kinded good fits = record { accepted = good; fits = fits; may = may_start script good; alike = wider_is_alike (at_start script.small).state fresh (started_fresh script.small) }

pub every_schedule_alike : EveryScheduleAlike
every_schedule_alike start script kinded turns may =
    promised_alike start script kinded (world_from start script kinded turns) (keeps_from Alike start script kinded turns (begins_alike start script kinded may) may.fits)
