-- A client's moves bring about the history of its bytes.
use Rattle.std.proofs.Common.{◌≡◌, ℕ, List, [], ◌∷◌, ◌++◌, drop, fold, Option, Some, None, Result, Ok, Err, refl, sym, ap, ◌∙◌, subst, append_assoc}
use Rattle.gfx_base.specs.Results.{and_then}
use Rattle.gfx_base.proofs.ResultLemmas.{and_then-Ok}
use Rattle.gfx_base.specs.declared.refusal.Refusal.{Refusal}
use Rattle.gfx_pdu.specs.declared.pdu.Pdu.{Pdu}
use Rattle.gfx_pdu.specs.Reading.{message_at}
use Rattle.gfx_segment.specs.Framing.{Splitter, fed, next, next_of, answer_of, Front, front, payload, Whole, Short, Bad}
use Rattle.gfx_segment.proofs.FrontLemmas.{front-nil}
use Rattle.gfx_state.specs.State.{State}
use Rattle.gfx_state.specs.Step.{step}
use Rattle.gfx_state.specs.Payload.{messages_within, messages_of}
use Rattle.gfx_state.specs.Run.{Run, refuse, took, apply, close, deliver, opened}
use Rattle.gfx_state.specs.Cursor.{Cursor, given, before_all, Move, Opens, Takes, Needs, Refuses, next_payload, next_state, next_message, what_next, Reaches, Here, Opening, Taking, after_held, run_at, settled}
use Rattle.gfx_state.specs.History.{Effect, effect, effects, messages_read, history, state_after, history_held, coming, BringsAbout}
use Rattle.gfx_state.proofs.Effects.{nothing, effects_cons, history-append, history_refused, history_short, history_bad, history_whole}
use Rattle.gfx_state.proofs.Moves.{deliver_refused, next_gives, next_short, after_gives, opens_state}
use Rattle.gfx_state.proofs.Runs.{goes_on, stays}
use Rattle.gfx_state.proofs.Payloads.{messages_of_more, messages_of_refused, messages_of_none}

-- behind a refusal nothing comes
held_refused : (run : Run) (r : Refusal) (refusal : Option Refusal) (bytes : List ℕ) → run.refusal ≡ Some r → history_held run refusal bytes ≡ []
unfolding history_held
held_refused run r None bytes e = history_refused run r bytes e
held_refused run r (Some s) bytes e = refl

-- bytes that are given -----------------------------------------------------------------------------

-- a run that a refusal ends has one
closed_refusal : (run : Run) (r : Refusal) → (s : Refusal) × ((close run (Some r)).refusal ≡ Some s)
unfolding close
closed_refusal run r =
    elim (run.refusal) as (λ q. run.refusal ≡ q → (s : Refusal) × ((close run (Some r)).refusal ≡ Some s)) [
      | None ↦ λ e. (r, ap (λ (z : Run). z.refusal) (goes_on run (refuse run r) e))
      | Some s ↦ λ e. (s, ap (λ (z : Run). z.refusal) (stays run (refuse run r) s e) ∙ e)
    ] refl

held_fed : (run : Run) (rest : List ℕ) (refusal : Option Refusal) (piece : List ℕ) → (let held : Splitter = record { rest = rest; refusal = refusal } in history_held run (fed held piece).refusal (fed held piece).rest)
    ≡ history_held run refusal rest ++ history (after_held run refusal rest) piece
unfolding history_held after_held
held_fed run rest None piece = history-append run rest piece
held_fed run rest (Some r) piece = let ends = closed_refusal run r in sym (history_refused (close run (Some r)) ends.0 piece ends.1)

pub coming-given : (c : Cursor) (piece : List ℕ) → coming (given c piece) ≡ coming c ++ history (settled c) piece
unfolding coming settled
coming-given c piece =
    let run = deliver (run_at c) (messages_of c.left) in
    let now = effects c.state (messages_of c.left).read in
    ap (λ z. now ++ z) (held_fed run c.splitter.rest c.splitter.refusal piece)
    ∙ sym (append_assoc now (history_held run c.splitter.refusal c.splitter.rest) (history (after_held run c.splitter.refusal c.splitter.rest) piece))

pub coming_before_all : coming before_all ≡ []
unfolding coming history_held history effects deliver close messages_within
coming_before_all = refl

-- one move -----------------------------------------------------------------------------------------

-- what a move says of what comes
abbrev Foretells : Cursor → Move → Type 0
Foretells c (Opens d) = coming d ≡ coming c
Foretells c (Takes pdu d) = (size : ℕ) × (coming c ≡ record { pdu = pdu; size = size; state = d.state } ∷ coming d)
Foretells c Needs = coming c ≡ []
Foretells c (Refuses r) = coming c ≡ []

-- what comes where a payload is at its end
at_end : (c : Cursor) → message_at c.left ≡ Ok None → coming c ≡ history_held (run_at c) c.splitter.refusal c.splitter.rest
unfolding coming deliver close effects
at_end c none = ap (λ z. effects c.state z.read ++ history_held (deliver (run_at c) z) c.splitter.refusal c.splitter.rest) (messages_of_none c.left none)

foretells_taking : (c : Cursor) (m : Pdu × ℕ) (s : State) → message_at c.left ≡ Ok (Some m) → step c.state m.0 ≡ Ok s → Foretells c (next_state c m.0 m.1 (Ok s))
unfolding next_state coming deliver apply took
foretells_taking c m s read stepped =
    let first = messages_of_more c.left m read in
    let others = messages_of (drop m.1 c.left) in
    let on = ap (λ z. took (run_at c) z) stepped in (
      m.1,
      ap (λ z. effects c.state z.read ++ history_held (deliver (run_at c) z) c.splitter.refusal c.splitter.rest) first
          ∙ ap (λ z. z ++ history_held (close (fold apply (took (run_at c) (step c.state m.0)) others.read) others.refusal) c.splitter.refusal c.splitter.rest) (effects_cons c.state s m others.read stepped)
          ∙ ap (λ z. record { pdu = m.0; size = m.1; state = s } ∷ (effects s others.read ++ history_held (close (fold apply z others.read) others.refusal) c.splitter.refusal c.splitter.rest)) on,
    )

foretells_refusing : (c : Cursor) (m : Pdu × ℕ) (r : Refusal) → message_at c.left ≡ Ok (Some m) → step c.state m.0 ≡ Err r → coming c ≡ []
unfolding coming deliver apply took effects effect
foretells_refusing c m r read stepped =
    let first = messages_of_more c.left m read in
    let others = messages_of (drop m.1 c.left) in
    let on = ap (λ z. took (run_at c) z) stepped in
    ap (λ z. effects c.state z.read ++ history_held (deliver (run_at c) z) c.splitter.refusal c.splitter.rest) first
    ∙ ap (λ z. effect m z (λ next. effects next others.read) ++ history_held (close (fold apply (took (run_at c) z) others.read) others.refusal) c.splitter.refusal c.splitter.rest) stepped
    ∙ ap (λ z. history_held z c.splitter.refusal c.splitter.rest) (deliver_refused (refuse (run_at c) r) r others refl)
    ∙ held_refused (refuse (run_at c) r) r c.splitter.refusal c.splitter.rest refl

foretells_unread : (c : Cursor) (r : Refusal) → message_at c.left ≡ Err r → coming c ≡ []
unfolding coming deliver close effects
foretells_unread c r read =
    ap (λ z. effects c.state z.read ++ history_held (deliver (run_at c) z) c.splitter.refusal c.splitter.rest) (messages_of_refused c.left r read)
    ∙ held_refused (refuse (run_at c) r) r c.splitter.refusal c.splitter.rest refl

foretells_opening : (c : Cursor) (p : List ℕ) → message_at c.left ≡ Ok None → next payload c.splitter ≡ Ok (Some p) → Foretells c (next_payload c (Ok (Some p)))
unfolding next_payload coming history_held opened messages_read
foretells_opening c p none gave =
    let g = next_gives c.splitter.refusal c.splitter.rest p gave in
    let held = after_gives c.splitter p g.message g.after g.none gave g.whole in
    ap (λ z. effects c.state (messages_of p).read ++ history_held (deliver (run_at c) (messages_of p)) z.refusal z.rest) held
    ∙ sym (at_end c none ∙ ap (λ z. history_held (run_at c) z c.splitter.rest) g.none
    ∙ history_whole (run_at c) c.splitter.rest g.message g.after refl front-nil g.whole
    ∙ ap (λ z. effects c.state (messages_read z) ++ history (opened (run_at c) z) g.after) g.reads)

foretells_needing : (c : Cursor) → message_at c.left ≡ Ok None → next payload c.splitter ≡ Ok None → coming c ≡ []
unfolding history_held
foretells_needing c none gave =
    let short = next_short c.splitter.refusal c.splitter.rest gave in
    at_end c none ∙ ap (λ z. history_held (run_at c) z c.splitter.rest) short.0 ∙ history_short (run_at c) c.splitter.rest refl short.1

abbrev some_payload : List ℕ → Result (Option (List ℕ)) Refusal
some_payload p = Ok (Some p)

-- where the framing is refused nothing comes
held_ending : (run : Run) (refusal : Option Refusal) (rest : List ℕ) (r : Refusal) → run.refusal ≡ None → run.rest ≡ [] → next_of payload refusal rest ≡ Err r → history_held run refusal rest ≡ []
unfolding next_of answer_of history_held opened messages_read
held_ending run (Some s) rest r e empty refuses = refl
held_ending run None rest r e empty refuses =
    let behind = λ (f : Front) (here : front rest ≡ f). ap (λ z. front (z ++ rest)) empty ∙ here in
    let before = ap front empty ∙ front-nil in
    elim (front rest) as (λ f. front rest ≡ f → answer_of payload f ≡ Err r → history run rest ≡ []) [
      | Short ↦ λ here due. absurd cc
      | Bad ↦ λ here due. history_bad run rest e before (behind Bad here)
      | Whole m a ↦ λ here due.
          elim (payload m) as (λ q. payload m ≡ q → and_then q some_payload ≡ Err r → history run rest ≡ []) [
            | Ok p ↦ λ reads found. let gives = sym (and_then-Ok p some_payload) ∙ found in absurd cc
            | Err s ↦ λ reads found.
                history_whole run rest m a e before (behind (Whole m a) here)
                ∙ ap (λ z. effects run.state (messages_read z) ++ history (opened (record run { rest = [] }) z) a) reads
                ∙ ap (λ z. z ++ history (refuse run s) a) (nothing run.state)
                ∙ history_refused (refuse run s) s a refl
          ] refl due
    ] refl refuses

foretells_payload : (c : Cursor) (due : Result (Option (List ℕ)) Refusal) → message_at c.left ≡ Ok None → next payload c.splitter ≡ due → Foretells c (next_payload c due)
unfolding next_payload
foretells_payload c (Ok (Some p)) none gave = foretells_opening c p none gave
foretells_payload c (Ok None) none gave = foretells_needing c none gave
foretells_payload c (Err r) none gave = at_end c none ∙ held_ending (run_at c) c.splitter.refusal c.splitter.rest r refl refl gave

foretells_state : (c : Cursor) (m : Pdu × ℕ) (due : Result State Refusal) → message_at c.left ≡ Ok (Some m) → step c.state m.0 ≡ due → Foretells c (next_state c m.0 m.1 due)
unfolding next_state
foretells_state c m (Ok s) read stepped = foretells_taking c m s read stepped
foretells_state c m (Err r) read stepped = foretells_refusing c m r read stepped

foretells_message : (c : Cursor) (due : Result (Option (Pdu × ℕ)) Refusal) → message_at c.left ≡ due → Foretells c (next_message c due)
unfolding next_message
foretells_message c (Ok (Some m)) read = foretells_state c m (step c.state m.0) read refl
foretells_message c (Ok None) read = foretells_payload c (next payload c.splitter) read refl
foretells_message c (Err r) read = foretells_unread c r read

foretells : (c : Cursor) → Foretells c (what_next c)
unfolding what_next
foretells c = foretells_message c (message_at c.left) refl

-- many moves -----------------------------------------------------------------------------------------

pub coming_needs : (c : Cursor) → what_next c ≡ Needs → coming c ≡ []
coming_needs c e = subst (Foretells c) e (foretells c)

pub coming_refuses : (c : Cursor) (r : Refusal) → what_next c ≡ Refuses r → coming c ≡ []
coming_refuses c r e = subst (Foretells c) e (foretells c)

pub coming_reaches : (c d : Cursor) (pdus : List Pdu) → Reaches c pdus d → BringsAbout c d pdus
coming_reaches c d pdus (Here at) = record { all = []; messages = refl; first = refl; state = refl }
coming_reaches c d pdus (Opening from via to ps e moves) =
    let one : coming via ≡ coming from = subst (Foretells from) e (foretells from) in
    let rest = coming_reaches via to ps moves in
    record {
      all = rest.all;
      messages = rest.messages;
      first = sym one ∙ rest.first;
      state = rest.state ∙ ap (λ z. state_after z rest.all) (opens_state from via e).0;
    }
coming_reaches c d pdus (Taking from via to pdu ps e moves) =
    let one : (size : ℕ) × (coming from ≡ record { pdu = pdu; size = size; state = via.state } ∷ coming via) = subst (Foretells from) e (foretells from) in
    let rest = coming_reaches via to ps moves in
    let done : Effect = record { pdu = pdu; size = one.0; state = via.state } in
    record {
      all = done ∷ rest.all;
      messages = ap (λ z. pdu ∷ z) rest.messages;
      first = one.1 ∙ ap (λ z. done ∷ z) rest.first;
      state = rest.state;
    }
