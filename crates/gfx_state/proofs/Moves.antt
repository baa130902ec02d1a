-- A client's moves keep it on the run of its bytes.
use Rattle.std.proofs.Common.{◌≡◌, ℕ, ◌<◌, true, ◌||◌, List, [], ◌∷◌, ◌++◌, length, drop, Option, Some, None, is_some, if◌then◌else◌, Result, Ok, Err, fold, refl, sym, ap, ◌∙◌, subst}
use Rattle.gfx_base.specs.declared.refusal.Refusal.{Refusal}
use Rattle.gfx_base.specs.declared.refusal.Refusal.TheVariants.{ChannelLength}
use Rattle.gfx_pdu.specs.declared.pdu.Pdu.{Pdu}
use Rattle.gfx_pdu.specs.Reading.{message_at}
use Rattle.gfx_segment.specs.Framing.{Splitter, holding, fed, next, next_of, after_next, answer_of, behind, is_short, is_drained, Front, front, payload, Whole, Short, Bad}
use Rattle.gfx_segment.proofs.FrontLemmas.{front-nil, length-after}
use Rattle.gfx_state.specs.State.{State}
use Rattle.gfx_state.specs.Step.{step}
use Rattle.gfx_base.specs.Results.{and_then}
use Rattle.gfx_base.proofs.ResultLemmas.{and_then_ok, and_then-Ok, and_then-Err}
use Rattle.gfx_state.specs.Payload.{Messages, messages_within, messages_of}
use Rattle.gfx_state.specs.Run.{Run, refuse, took, apply, close, deliver, opened, eats, run_of}
use Rattle.gfx_state.specs.Cursor.{Cursor, given, before_all, Move, Opens, Takes, Needs, Refuses, next_payload, next_state, next_message, what_next, Reaches, Here, Opening, Taking, after_held, run_at, waiting, settled}
use Rattle.gfx_state.proofs.Runs.{stays, goes_on, apply_refused, close_refused, eats-append, eats_refused, eats_short, eats_bad, eats_whole}
use Rattle.gfx_state.proofs.NextMoves.{what_next_needs}
use Rattle.gfx_state.proofs.Payloads.{message_at-nil, messages_of_more, messages_of_refused, messages_of_none}

-- a run behind a refusal --------------------------------------------------------------------------

-- once a refusal is due, the run ends with one
close_ends : (run : Run) (r : Refusal) (bytes : List ℕ) → eats (close run (Some r)) bytes ≡ close run (Some r)
unfolding close
close_ends run r bytes =
    elim (run.refusal) as (λ q. run.refusal ≡ q → eats (close run (Some r)) bytes ≡ close run (Some r)) [
      | None ↦ λ e. let ends : close run (Some r) ≡ refuse run r = goes_on run (refuse run r) e in
          rw ends (eats_refused (refuse run r) r bytes refl)
      | Some s ↦ λ e. let ends : close run (Some r) ≡ run = stays run (refuse run r) s e in
          rw ends (eats_refused run s bytes e)
    ] refl

pub fold_refused : (run : Run) (r : Refusal) (messages : List (Pdu × ℕ)) → run.refusal ≡ Some r → fold apply run messages ≡ run
fold_refused run r [] e = refl
fold_refused run r (p ∷ ps) e = ap (λ z. fold apply z ps) (apply_refused run r p e) ∙ fold_refused run r ps e

pub deliver_refused : (run : Run) (r : Refusal) (messages : Messages) → run.refusal ≡ Some r → deliver run messages ≡ run
unfolding deliver
deliver_refused run r messages e = ap (λ z. close z messages.refusal) (fold_refused run r messages.read e) ∙ close_refused run r messages.refusal e

after_held_refused : (run : Run) (r : Refusal) (refusal : Option Refusal) (bytes : List ℕ) → run.refusal ≡ Some r → after_held run refusal bytes ≡ run
unfolding after_held
after_held_refused run r None bytes e = eats_refused run r bytes e
after_held_refused run r (Some s) bytes e = close_refused run r (Some s) e

-- bytes that are given -----------------------------------------------------------------------------

after_fed : (run : Run) (rest : List ℕ) (refusal : Option Refusal) (piece : List ℕ) → (let held : Splitter = record { rest = rest; refusal = refusal } in after_held run (fed held piece).refusal (fed held piece).rest) ≡ eats (after_held run refusal rest) piece
unfolding after_held
after_fed run rest None piece = eats-append run rest piece
after_fed run rest (Some r) piece = sym (close_ends run r piece)

pub settled-given : (cursor : Cursor) (piece : List ℕ) → settled (given cursor piece) ≡ eats (settled cursor) piece
unfolding settled
settled-given cursor piece = after_fed (deliver (run_at cursor) (messages_of cursor.left)) cursor.splitter.rest cursor.splitter.refusal piece

-- a client at its start
pub settled_before_all : settled before_all ≡ run_of []
unfolding settled after_held deliver close messages_within
settled_before_all = refl

-- what a splitter answers ----------------------------------------------------------------------------

-- it gives the payload of the channel message at its front
pub record GivesPayload (refusal : Option Refusal) (rest p : List ℕ) : Type 0 where
  pub message : List ℕ
  pub after : List ℕ
  pub none : refusal ≡ None
  pub whole : front rest ≡ Whole message after
  pub reads : payload message ≡ Ok p

pub next_gives : (refusal : Option Refusal) (rest p : List ℕ) → next_of payload refusal rest ≡ Ok (Some p) → GivesPayload refusal rest p
unfolding next_of answer_of
next_gives (Some r) rest p e = absurd cc
next_gives None rest p e =
    elim (front rest) as (λ f. front rest ≡ f → answer_of payload f ≡ Ok (Some p) → GivesPayload None rest p) [
      | Short ↦ λ here given. absurd cc
      | Bad ↦ λ here given. absurd cc
      | Whole m a ↦ λ here given.
          let read = and_then_ok (payload m) _ (Some p) given in
          let last = read.2 in
          let same : read.0 ≡ p = cc in
          record { message = m; after = a; none = refl; whole = here; reads = read.1 ∙ ap (λ z. Ok z) same }
    ] refl e

-- it needs more bytes
pub next_short : (refusal : Option Refusal) (rest : List ℕ) → next_of payload refusal rest ≡ Ok None → (refusal ≡ None) × (front rest ≡ Short)
unfolding next_of answer_of
next_short (Some r) rest e = absurd cc
next_short None rest e =
    elim (front rest) as (λ f. front rest ≡ f → answer_of payload f ≡ Ok None → (◌≡◌ {A = Option Refusal} None None) × (front rest ≡ Short)) [
      | Short ↦ λ here given. (refl, here)
      | Bad ↦ λ here given. absurd cc
      | Whole m a ↦ λ here given.
          let read = and_then_ok (payload m) _ None given in
          let last = read.2 in absurd cc
    ] refl e

abbrev some_payload : List ℕ → Result (Option (List ℕ)) Refusal
some_payload p = Ok (Some p)

-- it refuses, and so does the run
next_refuses : (run : Run) (refusal : Option Refusal) (rest : List ℕ) (r : Refusal) → run.refusal ≡ None → run.rest ≡ [] → next_of payload refusal rest ≡ Err r → after_held run refusal rest ≡ refuse run r
unfolding next_of answer_of after_held close opened
next_refuses run (Some s) rest r e empty refuses =
    let same : s ≡ r = cc in goes_on run (refuse run s) e ∙ ap (refuse run) same
next_refuses run None rest r e empty refuses =
    let behind = λ (f : Front) (here : front rest ≡ f). ap (λ z. front (z ++ rest)) empty ∙ here in
    let nothing = ap front empty ∙ front-nil in
    elim (front rest) as (λ f. front rest ≡ f → answer_of payload f ≡ Err r → eats run rest ≡ refuse run r) [
      | Short ↦ λ here due. absurd cc
      | Bad ↦ λ here due.
          let same : ChannelLength ≡ r = cc in
          eats_bad run rest e nothing (behind Bad here) ∙ ap (refuse run) same
      | Whole m a ↦ λ here due.
          elim (payload m) as (λ q. payload m ≡ q → and_then q some_payload ≡ Err r → eats run rest ≡ refuse run r) [
            | Ok p ↦ λ reads found. let gives = sym (and_then-Ok p some_payload) ∙ found in absurd cc
            | Err s ↦ λ reads found.
                let ends = sym (and_then-Err s some_payload) ∙ found in
                let same : s ≡ r = cc in
                eats_whole run rest m a e nothing (behind (Whole m a) here)
                ∙ ap (λ z. eats (opened (record run { rest = [] }) z) a) reads
                ∙ eats_refused (refuse run s) s a refl
                ∙ ap (refuse run) same
          ] refl due
    ] refl refuses

-- one move -----------------------------------------------------------------------------------------

-- what a move says of the run
abbrev Keeps : Cursor → Move → Type 0
Keeps c (Opens d) = settled d ≡ settled c
Keeps c (Takes pdu d) = settled d ≡ settled c
Keeps c Needs = settled c ≡ waiting c
Keeps c (Refuses r) = settled c ≡ refuse (run_at c) r

-- a message is applied
keeps_taking : (c : Cursor) (m : Pdu × ℕ) (s : State) → message_at c.left ≡ Ok (Some m) → step c.state m.0 ≡ Ok s → Keeps c (next_state c m.0 m.1 (Ok s))
unfolding next_state settled deliver apply took
keeps_taking c m s read stepped =
    let first = messages_of_more c.left m read in
    let on = ap (λ z. took (run_at c) z) stepped in
    sym (ap (λ z. after_held (deliver (run_at c) z) c.splitter.refusal c.splitter.rest) first
    ∙ ap (λ z. after_held (close (fold apply z (messages_of (drop m.1 c.left)).read) (messages_of (drop m.1 c.left)).refusal) c.splitter.refusal c.splitter.rest) on)

-- a message is refused
keeps_refusing : (c : Cursor) (m : Pdu × ℕ) (r : Refusal) → message_at c.left ≡ Ok (Some m) → step c.state m.0 ≡ Err r → Keeps c (next_state c m.0 m.1 (Err r))
unfolding next_state settled deliver apply took
keeps_refusing c m r read stepped =
    let first = messages_of_more c.left m read in
    let on = ap (λ z. took (run_at c) z) stepped in
    let others = messages_of (drop m.1 c.left) in
    ap (λ z. after_held (deliver (run_at c) z) c.splitter.refusal c.splitter.rest) first
    ∙ ap (λ z. after_held (close (fold apply z others.read) others.refusal) c.splitter.refusal c.splitter.rest) on
    ∙ ap (λ z. after_held z c.splitter.refusal c.splitter.rest) (deliver_refused (refuse (run_at c) r) r others refl)
    ∙ after_held_refused (refuse (run_at c) r) r c.splitter.refusal c.splitter.rest refl

-- a message can't be read
keeps_unread : (c : Cursor) (r : Refusal) → message_at c.left ≡ Err r → Keeps c (Refuses r)
unfolding settled deliver close
keeps_unread c r read =
    ap (λ z. after_held (deliver (run_at c) z) c.splitter.refusal c.splitter.rest) (messages_of_refused c.left r read)
    ∙ after_held_refused (refuse (run_at c) r) r c.splitter.refusal c.splitter.rest refl

-- the run where a payload is at its end
at_end : (c : Cursor) → message_at c.left ≡ Ok None → settled c ≡ after_held (run_at c) c.splitter.refusal c.splitter.rest
unfolding settled deliver close
at_end c none = ap (λ z. after_held (deliver (run_at c) z) c.splitter.refusal c.splitter.rest) (messages_of_none c.left none)

pub after_gives : (held : Splitter) (p m a : List ℕ) → held.refusal ≡ None → next payload held ≡ Ok (Some p) → front held.rest ≡ Whole m a → after_next payload held ≡ holding a
unfolding behind
after_gives held p m a none gave whole =
    ap (λ z. if is_some z then held else behind (next payload held) (front held.rest) held.rest) none
    ∙ ap (λ z. behind z (front held.rest) held.rest) gave
    ∙ ap (λ z. behind (Ok (Some p)) z held.rest) whole

-- a channel message is opened
keeps_opening : (c : Cursor) (p : List ℕ) → message_at c.left ≡ Ok None → next payload c.splitter ≡ Ok (Some p) → Keeps c (next_payload c (Ok (Some p)))
unfolding next_payload settled after_held opened
keeps_opening c p none gave =
    let g = next_gives c.splitter.refusal c.splitter.rest p gave in
    let held = after_gives c.splitter p g.message g.after g.none gave g.whole in
    ap (λ z. after_held (deliver (run_at c) (messages_of p)) z.refusal z.rest) held
    ∙ sym (at_end c none ∙ ap (λ z. after_held (run_at c) z c.splitter.rest) g.none
    ∙ eats_whole (run_at c) c.splitter.rest g.message g.after refl front-nil g.whole
    ∙ ap (λ z. eats (opened (run_at c) z) g.after) g.reads)

-- more bytes are needed
keeps_needing : (c : Cursor) → message_at c.left ≡ Ok None → next payload c.splitter ≡ Ok None → Keeps c Needs
unfolding after_held
keeps_needing c none gave =
    let short = next_short c.splitter.refusal c.splitter.rest gave in
    at_end c none ∙ ap (λ z. after_held (run_at c) z c.splitter.rest) short.0
    ∙ eats_short (run_at c) c.splitter.rest refl short.1

-- the framing is refused
keeps_ending : (c : Cursor) (r : Refusal) → message_at c.left ≡ Ok None → next payload c.splitter ≡ Err r → Keeps c (Refuses r)
keeps_ending c r none gave = at_end c none ∙ next_refuses (run_at c) c.splitter.refusal c.splitter.rest r refl refl gave

-- a splitter that has refused keeps the run as it was
kept_ending : (run : Run) (refusal : Option Refusal) (rest : List ℕ) (r : Refusal) → run.refusal ≡ None → run.rest ≡ [] → next_of payload refusal rest ≡ Err r
    → (let held : Splitter = record { rest = rest; refusal = refusal } in after_held run (after_next payload held).refusal (after_next payload held).rest) ≡ after_held run refusal rest
unfolding after_held behind close
kept_ending run (Some s) rest r e empty refuses = refl
kept_ending run None rest r e empty refuses =
    ap (λ z. after_held run (behind z (front rest) rest).refusal (behind z (front rest) rest).rest) refuses
    ∙ goes_on run (refuse run r) e ∙ sym (next_refuses run None rest r e empty refuses)

pub settled_ending : (c : Cursor) (r : Refusal) → message_at c.left ≡ Ok None → next payload c.splitter ≡ Err r → settled (record c { splitter = after_next payload c.splitter }) ≡ settled c
settled_ending c r none gave =
    at_end (record c { splitter = after_next payload c.splitter }) none
    ∙ kept_ending (run_at c) c.splitter.refusal c.splitter.rest r refl refl gave ∙ sym (at_end c none)

keeps_payload : (c : Cursor) (due : Result (Option (List ℕ)) Refusal) → message_at c.left ≡ Ok None → next payload c.splitter ≡ due → Keeps c (next_payload c due)
unfolding next_payload
keeps_payload c (Ok (Some p)) none gave = keeps_opening c p none gave
keeps_payload c (Ok None) none gave = keeps_needing c none gave
keeps_payload c (Err r) none gave = keeps_ending c r none gave

keeps_state : (c : Cursor) (m : Pdu × ℕ) (due : Result State Refusal) → message_at c.left ≡ Ok (Some m) → step c.state m.0 ≡ due → Keeps c (next_state c m.0 m.1 due)
keeps_state c m (Ok s) read stepped = keeps_taking c m s read stepped
keeps_state c m (Err r) read stepped = keeps_refusing c m r read stepped

keeps_message : (c : Cursor) (due : Result (Option (Pdu × ℕ)) Refusal) → message_at c.left ≡ due → Keeps c (next_message c due)
unfolding next_message
keeps_message c (Ok (Some m)) read = keeps_state c m (step c.state m.0) read refl
keeps_message c (Ok None) read = keeps_payload c (next payload c.splitter) read refl
keeps_message c (Err r) read = keeps_unread c r read

keeps : (c : Cursor) → Keeps c (what_next c)
unfolding what_next
keeps c = keeps_message c (message_at c.left) refl

pub settled_takes : (c d : Cursor) (pdu : Pdu) → what_next c ≡ Takes pdu d → settled d ≡ settled c
settled_takes c d pdu e = subst (Keeps c) e (keeps c)

pub settled_opens : (c d : Cursor) → what_next c ≡ Opens d → settled d ≡ settled c
settled_opens c d e = subst (Keeps c) e (keeps c)

-- where more bytes are needed, all messages are applied, and less than a channel message is held
pub settled_needs : (c : Cursor) → what_next c ≡ Needs → settled c ≡ waiting c
settled_needs c e = subst (Keeps c) e (keeps c)

-- where there is a refusal, it is that of the run
pub settled_refuses : (c : Cursor) (r : Refusal) → what_next c ≡ Refuses r → settled c ≡ refuse (run_at c) r
settled_refuses c r e = subst (Keeps c) e (keeps c)

-- many moves
pub settled_reaches : (c d : Cursor) (pdus : List Pdu) → Reaches c pdus d → settled d ≡ settled c
settled_reaches c d pdus (Here at) = refl
settled_reaches c d pdus (Opening from via to ps e moves) = settled_reaches via to ps moves ∙ settled_opens from via e
settled_reaches c d pdus (Taking from via to pdu ps e moves) = settled_reaches via to ps moves ∙ settled_takes from via pdu e

-- what a splitter holds after it answered ------------------------------------------------------------

-- nothing changes where more bytes are needed
pub after_next_none : (held : Splitter) → next payload held ≡ Ok None → after_next payload held ≡ held
unfolding behind
after_next_none held gave =
    let short = next_short held.refusal held.rest gave in
    ap (λ z. if is_some z then held else behind (next payload held) (front held.rest) held.rest) short.0
    ∙ ap (λ z. behind z (front held.rest) held.rest) gave
    ∙ ap (λ z. behind (Ok None) z held.rest) short.1
    ∙ ap (λ z. record { rest = held.rest; refusal = z }) (sym short.0)

-- fewer bytes are held after a channel message was given
pub after_next_fewer : (held : Splitter) (p : List ℕ) → next payload held ≡ Ok (Some p) → length (after_next payload held).rest < length held.rest
after_next_fewer held p gave =
    let g = next_gives held.refusal held.rest p gave in
    rw (after_gives held p g.message g.after g.none gave g.whole) (length-after held.rest g.message g.after g.whole)

-- an answer of None says that the splitter can be ended
pub drained_by_none : (held : Splitter) → next payload held ≡ Ok None → is_drained held ≡ true
unfolding is_drained
drained_by_none held gave =
    let short = next_short held.refusal held.rest gave in
    ap (λ z. is_some z || is_short (front held.rest)) short.0 ∙ ap is_short short.1

-- a cursor that needs more bytes has none to give
pub needs_nothing : (c : Cursor) → what_next c ≡ Needs → next payload c.splitter ≡ Ok None
unfolding what_next next_message next_payload next_state
needs_nothing c e =
    elim (message_at c.left) as (λ q. next_message c q ≡ Needs → next payload c.splitter ≡ Ok None) [
      | Ok o ↦ elim o as (λ q. next_message c (Ok q) ≡ Needs → next payload c.splitter ≡ Ok None) [
        | Some m ↦ λ needs. elim (step c.state m.0) as (λ q. next_state c m.0 m.1 q ≡ Needs → next payload c.splitter ≡ Ok None) [
          | Ok s ↦ λ none. absurd cc
          | Err r ↦ λ none. absurd cc
        ] needs
        | None ↦ λ needs. elim (next payload c.splitter) as (λ q. next_payload c q ≡ Needs → q ≡ Ok None) [
          | Ok o ↦ elim o as (λ q. next_payload c (Ok q) ≡ Needs → ◌≡◌ {A = Result (Option (List ℕ)) Refusal} (Ok q) (Ok None)) [
            | Some p ↦ λ none. absurd cc
            | None ↦ λ none. refl
          ]
          | Err r ↦ λ none. absurd cc
        ] needs
      ]
      | Err r ↦ λ needs. absurd cc
    ] e

-- longer runs of moves -------------------------------------------------------------------------------

-- one more channel message is opened
pub Reaches-opens : (a b d : Cursor) (pdus : List Pdu) → Reaches a pdus b → what_next b ≡ Opens d → Reaches a pdus d
Reaches-opens a b d pdus (Here at) e = Opening at d d [] e (Here d)
Reaches-opens a b d pdus (Opening from via to ps first others) e = Opening from via d ps first (Reaches-opens via to d ps others e)
Reaches-opens a b d pdus (Taking from via to pdu ps first others) e = Taking from via d pdu ps first (Reaches-opens via to d ps others e)

-- one more message is applied
pub Reaches-takes : (a b d : Cursor) (pdus : List Pdu) (last : Pdu) → Reaches a pdus b → what_next b ≡ Takes last d → Reaches a (pdus ++ last ∷ []) d
Reaches-takes a b d pdus last (Here at) e = Taking at d d last [] e (Here d)
Reaches-takes a b d pdus last (Opening from via to ps first others) e = Opening from via d (ps ++ last ∷ []) first (Reaches-takes via to d ps last others e)
Reaches-takes a b d pdus last (Taking from via to pdu ps first others) e = Taking from via d pdu (ps ++ last ∷ []) first (Reaches-takes via to d ps last others e)

-- what is the same where a channel message is opened
abbrev SameState : Cursor → Move → Type 0
SameState c (Opens d) = (d.state ≡ c.state) × (d.applied ≡ c.applied)
SameState c other = Unit {0}

same_state_payload : (c : Cursor) (due : Result (Option (List ℕ)) Refusal) → SameState c (next_payload c due)
unfolding next_payload
same_state_payload c (Ok (Some p)) = (refl, refl)
same_state_payload c (Ok None) = tt
same_state_payload c (Err r) = tt

same_state_applied : (c : Cursor) (pdu : Pdu) (size : ℕ) (due : Result State Refusal) → SameState c (next_state c pdu size due)
unfolding next_state
same_state_applied c pdu size (Ok s) = tt
same_state_applied c pdu size (Err r) = tt

same_state_message : (c : Cursor) (due : Result (Option (Pdu × ℕ)) Refusal) → SameState c (next_message c due)
unfolding next_message
same_state_message c (Ok (Some m)) = same_state_applied c m.0 m.1 (step c.state m.0)
same_state_message c (Ok None) = same_state_payload c (next payload c.splitter)
same_state_message c (Err r) = tt

same_state : (c : Cursor) → SameState c (what_next c)
unfolding what_next
same_state c = same_state_message c (message_at c.left)

pub opens_state : (c d : Cursor) → what_next c ≡ Opens d → (d.state ≡ c.state) × (d.applied ≡ c.applied)
opens_state c d e = subst (SameState c) e (same_state c)

-- moves without a message change neither the state nor the count
pub Reaches-none : (c d : Cursor) (pdus : List Pdu) → Reaches c pdus d → pdus ≡ [] → (d.state ≡ c.state) × (d.applied ≡ c.applied)
Reaches-none c d pdus (Here at) none = (refl, refl)
Reaches-none c d pdus (Opening from via to ps first others) none =
    let rest = Reaches-none via to ps others none in
    let one = opens_state from via first in
    (rest.0 ∙ one.0, rest.1 ∙ one.1)
Reaches-none c d pdus (Taking from via to pdu ps first others) none = absurd cc

-- a client at its start needs bytes
nothing_yet : next payload (holding []) ≡ Ok None
unfolding next_of answer_of
nothing_yet = ap (answer_of payload) front-nil

pub needs_before_all : what_next before_all ≡ Needs
needs_before_all = what_next_needs before_all message_at-nil nothing_yet
