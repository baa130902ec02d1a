-- Rounds end a session.
use Rattle.std.proofs.Common.{◌≡◌, ℕ, zero, suc, ◌+◌, ◌≤◌, Bool, true, false, ◌&&◌, ◌||◌, not, cond, List, [], ◌∷◌, ◌++◌, length, map, refl, sym, ap, ◌∙◌, subst, arith, length-append, inl, inr}
use Rattle.std.specs.Prelude.{nat_lt}
use Rattle.std.specs.List.{AllByRecursion}
use Rattle.std.proofs.lemmas.Bool.{cases_Bool, lt-ltb, eqb-true}
use Rattle.std.proofs.lemmas.List.{append-nil, take_all, drop_all, nil_from_length, length-map}
use Rattle.gfx_caps.specs.declared.message.ClientPdu.{ClientPdu}
use Rattle.gfx_caps.specs.Spelling.{spelling as word_spelling}
use Rattle.gfx_pdu.specs.declared.pdu.Pdu.{Pdu}
use Rattle.gfx_pdu.specs.Spelling.{spelling}
use Rattle.gfx_script.specs.Kinds.{KindedStep, Fits}
use Rattle.gfx_script.specs.Script.{is_frame}
use Rattle.gfx_script.specs.Scripted.{Script}
use Rattle.gfx_script.specs.declared.turn.Turn.TheVariants.{Server, Client, Answer}
use Rattle.gfx_segment.specs.Framing.{Whole, front, ReadBack}
use Rattle.gfx_segment.proofs.ReadBackLemmas.{read_back}
use Rattle.gfx_state.specs.History.{effects, spelled}
use Rattle.gfx_state.specs.Run.{Run, run_from}
use Rattle.gfx_state.specs.Alike.{Alike}
use Rattle.gfx_state.specs.Sending.{sent, IsCarried}
use Rattle.gfx_state.specs.State.{State}
use Rattle.gfx_state.proofs.Effects.{nothing}
use Rattle.gfx_state.proofs.Sent.{sent-cons}
use Rattle.gfx_window.specs.Window.{has_room}
use Rattle.gfx_schedule.specs.Frames.{frames_of}
use Rattle.gfx_schedule.specs.Hearing.{Heard, listening, hears}
use Rattle.gfx_schedule.specs.Schedule.{rounds_for, RoundsEnd}
use Rattle.gfx_schedule.specs.Starts.{Start}
use Rattle.gfx_schedule.specs.ServerEnd.{ScheduledEnd, is_none, behind_frame, queued, can_send, serves, with_sent}
use Rattle.gfx_schedule.specs.Words.{said}
use Rattle.gfx_schedule.specs.World.{World, server_turns, client_takes, server_heard, happens, world_from, round, drained, is_ended}
use Rattle.gfx_schedule.proofs.Confirming.{confirms, tell_offers}
use Rattle.gfx_schedule.proofs.Flights.{Flight, pair_of, Downward}
use Rattle.gfx_schedule.proofs.Keeping.{word_of}
use Rattle.gfx_schedule.proofs.Turns.{Phase, Greeting, Going, Upward, Keeps, takes, serving, hearing, frames_heard, Offered, NotYet, Now, offers_heard, sends_yes, sends_no, Begins, begins_alike, keeps_from}

-- no bytes in flight ---------------------------------------------------------------------------------------------

none_mapped : {X Y : Type 0} (f : X → Y) (xs : List X) → map f xs ≡ [] → xs ≡ []
none_mapped f [] e = refl
none_mapped f (x ∷ xs) e = absurd cc

-- where none is on its way to the client, no frame is
pub none_coming : (R : State → State → Type 0) (run : Run) (server : State) (coming : List Flight) → Downward R run [] server coming → coming ≡ []
none_coming R run server coming down = by down.todo down.inside.bytes_are down.inside.carried down.frames
  where
    by : (todo : List Pdu) → run.rest ++ [] ≡ sent todo → AllByRecursion IsCarried todo → frames_of (effects run.state (spelled todo)) ≡ map pair_of coming → coming ≡ []
    by [] are carried frames = none_mapped pair_of coming (sym frames ∙ ap frames_of (nothing run.state))
    by (pdu ∷ pdus) are carried frames =
        let back : ReadBack (spelling pdu) (sent pdus) = read_back (spelling pdu) (sent pdus) carried.0.short in
        let whole : front run.rest ≡ Whole back.message (sent pdus) = ap front (sym (append-nil run.rest) ∙ are ∙ sent-cons pdu pdus) ∙ back.whole in
        let short = down.inside.short in
        absurd cc

-- where none is on its way to the server's end, no message is
pub none_said : (end : ScheduledEnd) (words : List ClientPdu) → Upward end [] words → words ≡ []
none_said end [] up = refl
none_said end (word ∷ words) up =
    let whole : front end.heard ≡ Whole (word_spelling word) (said words) = ap front (sym (append-nil end.heard) ∙ up.bytes_are) ∙ (up.carried.0 (said words)).whole in
    let short = up.short in
    absurd cc

-- the version is confirmed then, and all that was drawn is acknowledged
pub record Answered (R : State → State → Type 0) (start : Start) (script : Script) (kinded : List KindedStep) (w : World) (keeps : Keeps R start script kinded w) : Type 0 where
  pub confirmed : w.server.confirmed ≡ true
  pub drawn : keeps.drawn ≡ []

answered : (R : State → State → Type 0) (start : Start) (script : Script) (kinded : List KindedStep) (w : World) (keeps : Keeps R start script kinded w) → w.up ≡ [] → Answered R start script kinded w keeps
answered R start script kinded w keeps none =
    let no_words = none_said w.server keeps.words (subst (λ z. Upward w.server z keeps.words) none keeps.upward) in
    by keeps.phase no_words
  where
    by : Phase start script w.server keeps.drawn keeps.coming keeps.words → keeps.words ≡ [] → Answered R start script kinded w keeps
    by (Greeting unconfirmed at none_drawn none_coming are) no_words = absurd cc
    by (Going confirmed are) no_words = record { confirmed = confirmed; drawn = none_mapped word_of keeps.drawn (sym are ∙ no_words) }

-- the parts of a round -------------------------------------------------------------------------------------------

pub all_taken : (script : Script) (w : World) → happens script w (Client (length w.down)) ≡ client_takes w w.down []
unfolding happens
all_taken script w = λ i. client_takes w (take_all (length w.down) w.down (omega arith) i) (drop_all (length w.down) w.down (omega arith) i)

pub all_heard : (script : Script) (w : World) → happens script w (Answer (length w.up)) ≡ server_heard w (hears script (listening w.server) w.up) []
unfolding happens
all_heard script w = λ i. server_heard w (hears script (listening w.server) (take_all (length w.up) w.up (omega arith) i)) (drop_all (length w.up) w.up (omega arith) i)

server_is : (script : Script) (w : World) → happens script w Server ≡ server_turns script w
unfolding happens
server_is script w = refl

-- a round, part by part
pub record Parts (script : Script) (w : World) : Type 0 where
  pub drawn : World
  pub is : round script w ≡ server_heard drawn (hears script (listening drawn.server) drawn.up) []
  pub drawn_is : drawn ≡ client_takes (server_turns script w) (server_turns script w).down []

pub parts : (script : Script) (w : World) → Parts script w
unfolding round
parts script w =
    let sent_is = server_is script w in
    let drawn_is = ap (λ z. happens script z (Client (length z.down))) sent_is ∙ all_taken script (server_turns script w) in
    record {
      drawn = client_takes (server_turns script w) (server_turns script w).down [];
      is = ap (λ z. happens script z (Answer (length z.up))) drawn_is ∙ all_heard script (client_takes (server_turns script w) (server_turns script w).down []);
      drawn_is = refl;
    }

down_of_taken : (w : World) (bytes : List ℕ) → (client_takes w bytes []).down ≡ []
unfolding client_takes
down_of_taken w bytes = refl

server_of_taken : (w : World) (bytes : List ℕ) → (client_takes w bytes []).server ≡ w.server
unfolding client_takes
server_of_taken w bytes = refl

server_of_turn : (script : Script) (w : World) → (server_turns script w).server ≡ serves script w.server
unfolding server_turns
server_of_turn script w = refl

up_of_heard : (w : World) (heard : Heard) → (server_heard w heard []).up ≡ []
unfolding server_heard
up_of_heard w heard = refl

server_of_heard : (w : World) (heard : Heard) → (server_heard w heard []).server ≡ heard.end
unfolding server_heard
server_of_heard w heard = refl

down_of_heard : (w : World) (heard : Heard) → (server_heard w heard []).down ≡ w.down ++ heard.out
unfolding server_heard
down_of_heard w heard = refl

-- the session after a round --------------------------------------------------------------------------------------

pub record Settled (w : World) : Type 0 where
  pub confirmed : w.server.confirmed ≡ true
  pub flying : w.server.window.flying ≡ []
  pub up : w.up ≡ []

-- the client has drawn all, and the server's end has heard all
pub record Rounded (R : State → State → Type 0) (start : Start) (script : Script) (kinded : List KindedStep) (w : World) : Type 0 where
  pub keeps : Keeps R start script kinded (round script w)
  pub settled : Settled (round script w)

-- no frame is in flight once all is heard
none_flying : (R : State → State → Type 0) (start : Start) (script : Script) (kinded : List KindedStep) (w : World) → Begins R start script → (keeps : Keeps R start script kinded w) → w.down ≡ [] → (hears script (listening w.server) w.up).end.window.flying ≡ []
none_flying R start script kinded w good keeps none =
    let coming = none_coming R (run_from w.start w.taken) w.server.server.state keeps.coming (subst (λ z. Downward R (run_from w.start w.taken) z w.server.server.state keeps.coming) none keeps.downward) in
    by coming keeps.phase
  where
    by : keeps.coming ≡ [] → Phase start script w.server keeps.drawn keeps.coming keeps.words → (hears script (listening w.server) w.up).end.window.flying ≡ []
    by coming (Greeting unconfirmed at none_drawn none_coming are) =
        let h = offers_heard R start script kinded w w.up [] good (sym (append-nil w.up)) keeps are in
        offers_leave h.left h.offered ∙ keeps.flying.flying ∙ ap (λ z. map (λ (f : Flight). f.sent_as) (z ++ keeps.coming)) none_drawn ∙ ap (map (λ (f : Flight). f.sent_as)) none_coming
      where
        offers_leave : (left : List ClientPdu) → Offered script w (hears script (listening w.server) w.up) left → (hears script (listening w.server) w.up).end.window.flying ≡ w.server.window.flying
        offers_leave left (NotYet held is left_is) = ap (λ z. z.end.window.flying) is
        offers_leave left (Now held is left_is) = ap (λ z. z.end.window.flying) is ∙ ap (λ z. z.end.window.flying) (tell_offers script (listening w.server) (confirms script start.held good.good))
    by coming (Going confirmed are) =
        let h = frames_heard R start script kinded w w.up [] (sym (append-nil w.up)) keeps are in
        let listens = h.listens in
        let end : ScheduledEnd = (hears script (listening w.server) w.up).end in
        let words = none_said end (map word_of h.later) (record { goes_on = listens.goes_on; short = listens.short; bytes_are = listens.bytes_are; carried = listens.carried }) in
        let later = none_mapped word_of h.later words in
        ap (λ z. z.end.window.flying) h.is ∙ ap (λ z. map (λ (f : Flight). f.sent_as) (z ++ keeps.coming)) later ∙ ap (map (λ (f : Flight). f.sent_as)) coming

pub rounded : (R : State → State → Type 0) (start : Start) (script : Script) (kinded : List KindedStep) (w : World) → Begins R start script → Fits kinded script.steps → Keeps R start script kinded w → Rounded R start script kinded w
rounded R start script kinded w good fits keeps =
    let p = parts script w in
    let sent_to : World = server_turns script w in
    let first = serving R start script kinded w good fits keeps in
    let second = subst (Keeps R start script kinded) (sym p.drawn_is) (takes R start script kinded sent_to sent_to.down [] (sym (append-nil sent_to.down)) first) in
    let third = hearing R start script kinded p.drawn p.drawn.up [] good (sym (append-nil p.drawn.up)) second in
    let last : World = server_heard p.drawn (hears script (listening p.drawn.server) p.drawn.up) [] in
    let up = up_of_heard p.drawn (hears script (listening p.drawn.server) p.drawn.up) in
    let answer = answered R start script kinded last third up in
    let down : p.drawn.down ≡ [] = ap (λ z. z.down) p.drawn_is ∙ down_of_taken sent_to sent_to.down in
    let flying = ap (λ z. z.window.flying) (server_of_heard p.drawn (hears script (listening p.drawn.server) p.drawn.up)) ∙ none_flying R start script kinded p.drawn good second down in
    record {
      keeps = subst (Keeps R start script kinded) (sym p.is) third;
      settled = subst Settled (sym p.is) record { confirmed = answer.confirmed; flying = flying; up = up };
    }

-- a round of a settled session -----------------------------------------------------------------------------------

pub record Quiet (w : World) : Type 0 where
  pub settled : Settled w
  pub pending : w.server.window.pending ≡ []
  pub down : w.down ≡ []

-- a frame goes where a step waits
served_all : (R : State → State → Type 0) (start : Start) (script : Script) (kinded : List KindedStep) (w : World) → Begins R start script → Keeps R start script kinded w → Settled w
    → ((serves script w.server).window.pending ≡ []) × ((serves script w.server).left ≡ behind_frame w.server.left) × ((serves script w.server).confirmed ≡ true)
unfolding queued with_sent
served_all R start script kinded w good keeps settled =
    elim (cases_Bool (can_send (queued w.server))) [
      | inl can ↦
          let is = (sends_yes script (queued w.server) can).0 in
          (ap (λ z. z.window.pending) is, ap (λ z. z.left) is, ap (λ z. z.confirmed) is ∙ settled.confirmed)
      | inr can ↦
          let is = (sends_no script (queued w.server) can).0 in
          let room : has_room (queued w.server).window ≡ true = ap (λ b. b || nat_lt (length w.server.window.flying) w.server.window.size) keeps.flying.watched ∙ lt-ltb (length w.server.window.flying) w.server.window.size (omega (arith, ap length settled.flying, keeps.size, good.good.window_from)) in
          (ap (λ z. z.window.pending) is ∙ empty (queued w.server).window.pending (refused (queued w.server) settled.confirmed room can), ap (λ z. z.left) is, ap (λ z. z.confirmed) is ∙ settled.confirmed)
    ]
  where
    refused : (end : ScheduledEnd) → end.confirmed ≡ true → has_room end.window ≡ true → can_send end ≡ false → is_none end.window.pending ≡ true
    refused end confirmed room can = by end.confirmed (is_none end.window.pending) (has_room end.window) confirmed room can
      where
        by : (a b c : Bool) → a ≡ true → c ≡ true → (a && (not b && c)) ≡ false → b ≡ true
        by true true c x y z = refl
        by true false true x y z = absurd cc
        by true false false x y z = absurd cc
        by false b c x y z = absurd cc

    empty : {X : Type 0} (items : List X) → is_none items ≡ true → items ≡ []
    empty [] e = refl
    empty (x ∷ items) e = absurd (let none : length (x ∷ items) ≡ 0 = eqb-true (length (x ∷ items)) 0 e in omega (arith, none))

-- what is said of frames leaves the rest of the server's end, and is answered by nothing
heard_leaves : (R : State → State → Type 0) (start : Start) (script : Script) (kinded : List KindedStep) (w : World) → (keeps : Keeps R start script kinded w) → w.server.confirmed ≡ true
    → ((hears script (listening w.server) w.up).end.window.pending ≡ w.server.window.pending) × ((hears script (listening w.server) w.up).end.left ≡ w.server.left) × ((hears script (listening w.server) w.up).out ≡ [])
heard_leaves R start script kinded w keeps confirmed = by keeps.phase
  where
    by : Phase start script w.server keeps.drawn keeps.coming keeps.words
        → ((hears script (listening w.server) w.up).end.window.pending ≡ w.server.window.pending) × ((hears script (listening w.server) w.up).end.left ≡ w.server.left) × ((hears script (listening w.server) w.up).out ≡ [])
    by (Greeting unconfirmed at none_drawn none_coming are) = absurd (let no : w.server.confirmed ≡ false = unconfirmed.1 in cc)
    by (Going is are) =
        let h = frames_heard R start script kinded w w.up [] (sym (append-nil w.up)) keeps are in
        (ap (λ z. z.end.window.pending) h.is, ap (λ z. z.end.left) h.is, ap (λ z. z.out) h.is)

pub record Advanced (R : State → State → Type 0) (start : Start) (script : Script) (kinded : List KindedStep) (w : World) : Type 0 where
  pub keeps : Keeps R start script kinded (round script w)
  pub quiet : Quiet (round script w)
  pub left : (round script w).server.left ≡ behind_frame w.server.left

pub advanced : (R : State → State → Type 0) (start : Start) (script : Script) (kinded : List KindedStep) (w : World) → Begins R start script → Fits kinded script.steps → Keeps R start script kinded w → Settled w → Advanced R start script kinded w
advanced R start script kinded w good fits keeps settled =
    let r = rounded R start script kinded w good fits keeps in
    let p = parts script w in
    let sent_to : World = server_turns script w in
    let first = serving R start script kinded w good fits keeps in
    let second = subst (Keeps R start script kinded) (sym p.drawn_is) (takes R start script kinded sent_to sent_to.down [] (sym (append-nil sent_to.down)) first) in
    let server : p.drawn.server ≡ serves script w.server = ap (λ z. z.server) p.drawn_is ∙ server_of_taken sent_to sent_to.down ∙ server_of_turn script w in
    let s = served_all R start script kinded w good keeps settled in
    let heard : Heard = hears script (listening p.drawn.server) p.drawn.up in
    let l = heard_leaves R start script kinded p.drawn second (ap (λ z. z.confirmed) server ∙ s.2) in
    let end : (round script w).server ≡ heard.end = ap (λ z. z.server) p.is ∙ server_of_heard p.drawn heard in
    let down : p.drawn.down ≡ [] = ap (λ z. z.down) p.drawn_is ∙ down_of_taken sent_to sent_to.down in
    record {
      keeps = r.keeps;
      quiet = record {
        settled = r.settled;
        pending = ap (λ z. z.window.pending) end ∙ l.0 ∙ ap (λ z. z.window.pending) server ∙ s.0;
        down = ap (λ z. z.down) p.is ∙ down_of_heard p.drawn heard ∙ ap (λ z. z ++ heard.out) down ∙ l.2;
      };
      left = ap (λ z. z.left) end ∙ l.1 ∙ ap (λ z. z.left) server ∙ s.1;
    }

-- rounds one after another ---------------------------------------------------------------------------------------

-- where nothing is left it is ended
ended_now : (w : World) → Quiet w → w.server.left ≡ [] → is_ended w ≡ true
ended_now w quiet left = rw (left, quiet.pending, quiet.settled.flying, quiet.down, quiet.settled.up) refl

not_more : (b : Bool) (steps behind : List KindedStep) → length behind ≤ length steps → length (cond b steps behind) ≤ length steps
not_more true steps behind few = omega arith
not_more false steps behind few = few

fewer : (steps : List KindedStep) → length (behind_frame steps) ≤ length steps
fewer [] = omega arith
fewer (one ∷ steps) = omega (arith, not_more (is_frame one.step) steps (behind_frame steps) (fewer steps))

one_fewer : (one : KindedStep) (steps : List KindedStep) → length (behind_frame (one ∷ steps)) ≤ length steps
one_fewer one steps = not_more (is_frame one.step) steps (behind_frame steps) (fewer steps)

drained_more : (script : Script) (most : ℕ) (w : World) → is_ended w ≡ false → drained script (suc most) w ≡ drained script most (round script w)
drained_more script most w going = ap (λ b. cond b w (drained script most (round script w))) going

drained_done : (script : Script) (most : ℕ) (w : World) → is_ended w ≡ true → is_ended (drained script most w) ≡ true
drained_done script zero w ended = ended
drained_done script (suc most) w ended = ap (λ b. is_ended (cond b w (drained script most (round script w)))) ended ∙ ended

-- from a quiet session on
pub quiet_ends : (R : State → State → Type 0) (start : Start) (script : Script) (kinded : List KindedStep) (most : ℕ) (w : World) → Begins R start script → Fits kinded script.steps → Keeps R start script kinded w → Quiet w → length w.server.left ≤ most → is_ended (drained script most w) ≡ true
quiet_ends R start script kinded zero w good fits keeps quiet few = ended_now w quiet (nil_from_length w.server.left (omega (arith, few)))
quiet_ends R start script kinded (suc most) w good fits keeps quiet few =
    elim (cases_Bool (is_ended w)) [
      | inl ended ↦ drained_done script (suc most) w ended
      | inr going ↦
          let a = advanced R start script kinded w good fits keeps quiet.settled in
          ap is_ended (drained_more script most w going) ∙ quiet_ends R start script kinded most (round script w) good fits a.keeps a.quiet (omega (arith, ap length a.left, shrinks w quiet going, few))
    ]
  where
    shrinks : (w : World) → Quiet w → is_ended w ≡ false → length (behind_frame w.server.left) + 1 ≤ length w.server.left
    shrinks w quiet going = by w.server.left refl
      where
        by : (left : List KindedStep) → w.server.left ≡ left → length (behind_frame left) + 1 ≤ length left
        by [] none = absurd (let now = ended_now w quiet none in cc)
        by (one ∷ steps) some = omega (arith, one_fewer one steps)

left_few : (R : State → State → Type 0) (start : Start) (script : Script) (kinded : List KindedStep) (w : World) → Fits kinded script.steps → Keeps R start script kinded w → length w.server.left ≤ length script.steps
left_few R start script kinded w fits keeps =
    omega (arith, ap length fits.same, length-map kinded (λ (z : KindedStep). z.step), ap length keeps.plan.cut, length-append keeps.gone (keeps.waiting ++ w.server.left), length-append keeps.waiting w.server.left)

-- two rounds settle it and make it quiet
pub ends : (R : State → State → Type 0) (start : Start) (script : Script) (kinded : List KindedStep) (most : ℕ) (w : World) → Begins R start script → Fits kinded script.steps → Keeps R start script kinded w → length script.steps ≤ most → is_ended (drained script (suc (suc most)) w) ≡ true
ends R start script kinded most w good fits keeps few =
    elim (cases_Bool (is_ended w)) [
      | inl ended ↦ drained_done script (suc (suc most)) w ended
      | inr going ↦
          let one = rounded R start script kinded w good fits keeps in
          ap is_ended (drained_more script (suc most) w going)
          ∙ elim (cases_Bool (is_ended (round script w))) as (λ _. is_ended (drained script (suc most) (round script w)) ≡ true) [
            | inl ended ↦ drained_done script (suc most) (round script w) ended
            | inr more ↦
                let two = advanced R start script kinded (round script w) good fits one.keeps one.settled in
                ap is_ended (drained_more script most (round script w) more)
                ∙ quiet_ends R start script kinded most (round script (round script w)) good fits two.keeps two.quiet (omega (arith, left_few R start script kinded (round script (round script w)) fits two.keeps, few))
          ]
    ]

pub rounds_end : RoundsEnd
rounds_end start script kinded turns may =
    let good = begins_alike start script kinded may in
    let keeps = keeps_from Alike start script kinded turns good may.fits in
    let w : World = world_from start script kinded turns in
    let count : rounds_for script ≡ suc (suc (length script.steps + 2)) = omega arith in
    ap (λ n. is_ended (drained script n w)) count ∙ ends Alike start script kinded (length script.steps + 2) w good may.fits keeps (omega arith)
