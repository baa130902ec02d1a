-- What a client stands for, through its calls.
use Rattle.std.proofs.Common.{◌≡◌, ℕ, ◌<◌, List, [], ◌∷◌, ◌++◌, length, ◌==◌, true, false, ◌&&◌, cond, IsTrue, if◌then◌else◌, Option, Some, None, Result, Ok, Err, inl, inr, refl, sym, ap, ◌∙◌, subst, arith}
use Rattle.gfx_base.specs.Memory.{next_count}
use Rattle.gfx_base.specs.declared.refusal.Refusal.{Refusal}
use Rattle.gfx_base.specs.declared.refusal.Refusal.TheVariants.{ChannelTruncated}
use Rattle.gfx_base.specs.declared.answer.Cause.{Cause}
use Rattle.gfx_base.specs.declared.answer.Cause.TheVariants as cause
use Rattle.gfx_client.specs.declared.client.Client.{Client}
use Rattle.gfx_client.specs.declared.fault.ClientFault.{ClientFault}
use Rattle.gfx_client.specs.declared.fault.ClientFault.TheVariants as fault
use Rattle.gfx_client.specs.declared.stepped.Stepped.{Stepped}
use Rattle.gfx_client.specs.declared.stepped.Stepped.TheVariants as stepped
use Rattle.gfx_client.specs.Replies.{is_empty_reply, stream_of}
use Rattle.gfx_segment.specs.Framing.{fed}
use Rattle.gfx_segment.specs.Payloads.{Payloads}
use Rattle.gfx_segment.specs.Whole.{streamed}
use Rattle.gfx_client.specs.Client.{cursor_of, closed_by, is_living, Advances, Steps, StepsOpen, Takes, MovesBy, Ends, end_of}
use Rattle.gfx_client.specs.Standing.{StandsFor, StandsFrom, IsDrained, IsRefusedFrom, PlaysFrom, Plays, answer_by, ends_from}
use Rattle.gfx_state.specs.Cursor.{Cursor, Needs, what_next, given, before_all, settled, waiting}
use Rattle.gfx_state.specs.Run.{Run, refuse, eats, run_from, end}
use Rattle.gfx_state.specs.State.{State}
use Rattle.gfx_state.proofs.Moves.{settled_before_all, needs_before_all, settled_reaches, settled_needs, settled_refuses, settled-given, Reaches-none}
use Rattle.gfx_state.proofs.Runs.{eats-append}
use Rattle.gfx_state.proofs.Weights.{weight, weight_reaches}

-- what a client stands for is a matter of its run
pub stands_on : {origin : State} (old new : Client) (bytes : List ℕ) → settled (cursor_of new) ≡ settled (cursor_of old) → StandsFrom origin old bytes → StandsFrom origin new bytes
stands_on old new bytes same s = record { run = same ∙ s.run }

-- a new client
pub stands_new : (client : Client) → cursor_of client ≡ before_all → StandsFor client []
stands_new client new = record { run = ap settled new ∙ settled_before_all }

pub drained_new : (client : Client) → cursor_of client ≡ before_all → closed_by client ≡ None → IsDrained client
drained_new client new none = record { needs = ap what_next new ∙ needs_before_all; not_closed = none }

-- a piece is taken
pub stands_taken : {origin : State} (old new : Client) (bytes piece : List ℕ) → cursor_of new ≡ given (cursor_of old) piece → StandsFrom origin old bytes → StandsFrom origin new (bytes ++ piece)
stands_taken old new bytes piece took s = record {
  run = ap settled took ∙ settled-given (cursor_of old) piece ∙ ap (λ z. eats z piece) s.run ∙ sym (eats-append _ bytes piece);
}

-- a channel message is taken --------------------------------------------------------------------------------

-- one that isn't passed over
pub fed_whole : (client : Client) (payloads : Payloads) (message : List ℕ) → payloads ≡ record client.payloads { splitter = fed client.payloads.splitter (streamed message) } → (is_living client && is_empty_reply message) ≡ false
    → cursor_of (record client { payloads = payloads }) ≡ given (cursor_of client) (stream_of (is_living client) message)
fed_whole client payloads message took e =
    ap (λ held. cursor_of (record client { payloads = held })) took ∙ ap (λ b. given (cursor_of client) (cond b [] (streamed message))) (sym e)

-- a step is made, whatever it answers
pub stands_advanced : (result : Result Stepped (Cause Refusal)) (old new : Client) → Advances result old new → settled (cursor_of new) ≡ settled (cursor_of old)
stands_advanced (Ok stepped.Need) old new w = settled_reaches (cursor_of old) (cursor_of new) [] w.moves.reaches
stands_advanced (Ok (stepped.Applied id size)) old new m = settled_reaches (cursor_of old) (cursor_of new) (m.pdu ∷ []) m.moves.reaches
stands_advanced (Ok (stepped.Ended frame size reply)) old new m = settled_reaches (cursor_of old) (cursor_of new) (m.pdu ∷ []) m.moves.reaches
stands_advanced (Err cause.Memory) old new m = settled_reaches (cursor_of old) (cursor_of new) [] m.0.reaches
stands_advanced (Err (cause.Refused r)) old new e = e.0.run

-- a step of a client that isn't closed
pub open_step : (old new : Client) (result : Result Stepped ClientFault) → closed_by old ≡ None → Steps (closed_by old) result old new → StepsOpen result old new
open_step old new result none s = subst (λ (z : Option ClientFault). Steps z result old new) none s

-- steps until more bytes are needed --------------------------------------------------------------------

pub drained : {origin : State} (start old new : Client) (bytes : List ℕ) → settled (cursor_of old) ≡ settled (cursor_of start) → closed_by old ≡ None → Steps (closed_by old) (Ok stepped.Need) old new → StandsFrom origin start bytes → PlaysFrom origin (Ok tt) new bytes bytes
drained start old new bytes same none s stands =
    let w = open_step old new (Ok stepped.Need) none s in
    (stands_on start new bytes (settled_reaches (cursor_of old) (cursor_of new) [] w.moves.reaches ∙ same) stands, record { needs = w.needs; not_closed = w.moves.closed ∙ none })

-- a message was applied
pub record GoesOn (start old new : Client) : Type 0 where
  pub run : settled (cursor_of new) ≡ settled (cursor_of start)
  pub not_closed : closed_by new ≡ None
  pub lighter : weight (cursor_of new) < weight (cursor_of old)

moved : (start old new : Client) (said : Stepped) → settled (cursor_of old) ≡ settled (cursor_of start) → closed_by old ≡ None → MovesBy old new said → GoesOn start old new
moved start old new said same none m = record {
  run = settled_reaches (cursor_of old) (cursor_of new) (m.pdu ∷ []) m.moves.reaches ∙ same;
  not_closed = m.moves.closed ∙ none;
  lighter = let few = weight_reaches (cursor_of old) (cursor_of new) (m.pdu ∷ []) m.moves.reaches in omega arith;
}

pub goes_on : (start old new : Client) (said : Stepped) → (said ≡ stepped.Need → IsTrue false) → settled (cursor_of old) ≡ settled (cursor_of start) → closed_by old ≡ None → Steps (closed_by old) (Ok said) old new → GoesOn start old new
goes_on start old new stepped.Need other same none s = let more = other refl in absurd cc
goes_on start old new said other same none s = moved start old new said same none (open_step old new (Ok said) none s)

-- a step was refused
refused : {origin : State} (start old new : Client) (bytes : List ℕ) (number : ℕ) (r : Refusal) → settled (cursor_of old) ≡ settled (cursor_of start) → Ends old new r → number ≡ next_count (cursor_of old).applied → closed_by new ≡ Some (fault.ClosedRefused number r) → StandsFrom origin start bytes → IsRefusedFrom origin new bytes number r
refused start old new bytes number r same e counted closing stands =
    let run = sym stands.run ∙ sym same ∙ sym (settled_reaches (cursor_of old) e.at [] e.reaches) ∙ settled_refuses e.at r e.refuses in
    let still = Reaches-none (cursor_of old) e.at [] e.reaches refl in
    record {
      refusal = ap (λ z. z.refusal) run;
      number_is = counted ∙ ap next_count (sym still.1) ∙ ap (λ z. next_count z.applied) (sym run);
      state = e.state ∙ sym still.0 ∙ ap (λ z. z.state) (sym run);
      closed = closing;
    }

-- a step was refused, or memory ran out
pub stopped : {origin : State} (start old new : Client) (f : ClientFault) (bytes : List ℕ) → settled (cursor_of old) ≡ settled (cursor_of start) → closed_by old ≡ None → Steps (closed_by old) (Err f) old new → StandsFrom origin start bytes → PlaysFrom origin (Err f) new bytes bytes
stopped start old new (fault.Refused number r) bytes same none s stands =
    let e = open_step old new (Err (fault.Refused number r)) none s in
    (stands_on start new bytes (e.0.run ∙ same) stands, refused start old new bytes number r same e.0 e.1 e.2 stands)
stopped start old new fault.Memory bytes same none s stands =
    let e = open_step old new (Err fault.Memory) none s in
    (inr (stands_on start new bytes (settled_reaches (cursor_of old) (cursor_of new) [] e.0 ∙ same) stands), e.1)
stopped start old new (fault.ClosedRefused number r) bytes same none s stands = open_step old new (Err (fault.ClosedRefused number r)) none s
stopped start old new fault.ClosedMemory bytes same none s stands = open_step old new (Err fault.ClosedMemory) none s

-- a piece is taken and then all is applied ------------------------------------------------------------------

-- what was taken was taken by an open client
pub open_taken : (closed : Option ClientFault) (old mid : Client) (piece : List ℕ) → Takes closed (Ok tt) old mid piece → (closed ≡ None) × (closed_by mid ≡ None)
open_taken (Some f) old mid piece t = let same = t.0 in absurd cc
open_taken None old mid piece t = (refl, t.1)

more : (origin : State) (result : Result (Unit {0}) ClientFault) (new : Client) (first all : List ℕ) → PlaysFrom origin result new all all → PlaysFrom origin result new first all
more origin (Ok done) new first all p = p
more origin (Err (fault.Refused number r)) new first all p = p
more origin (Err fault.Memory) new first all p = (elim p.0 [ inl s ↦ inr s | inr s ↦ inr s ], p.1)
more origin (Err (fault.ClosedRefused number r)) new first all p = p
more origin (Err fault.ClosedMemory) new first all p = p

pub played : (old mid new : Client) (piece : List ℕ) (result : Result (Unit {0}) ClientFault) → Takes (closed_by old) (Ok tt) old mid piece
    → ((origin : State) (bytes : List ℕ) → StandsFrom origin old bytes → StandsFrom origin mid (bytes ++ piece)) → ((origin : State) (bytes : List ℕ) → StandsFrom origin mid bytes → PlaysFrom origin result new bytes bytes) → Plays (closed_by old) result old new piece
played old mid new piece result took taken plays =
    subst (λ (z : Option ClientFault). Plays z result old new piece) (sym (open_taken (closed_by old) old mid piece took).0)
    (λ origin bytes s. more origin result new bytes (bytes ++ piece) (plays origin (bytes ++ piece) (taken origin bytes s)))

-- nothing was taken
pub not_taken : (closed : Option ClientFault) (f : ClientFault) (old new : Client) (piece : List ℕ) → Takes closed (Err f) old new piece → ((origin : State) (bytes : List ℕ) → StandsFrom origin old bytes → StandsFrom origin new bytes) → Plays closed (Err f) old new piece
not_taken (Some g) f old new piece t kept = t
not_taken None fault.Memory old new piece t kept = λ origin bytes s. (inl (kept origin bytes s), t.1)
not_taken None (fault.Refused number r) old new piece t kept = absurd t
not_taken None (fault.ClosedRefused number r) old new piece t kept = absurd t
not_taken None fault.ClosedMemory old new piece t kept = absurd t

-- the end ----------------------------------------------------------------------------------------------------

-- what is said at a cursor that needs more bytes is the end of its run
end_waiting : (at : Cursor) → end_of None at ≡ answer_by (end (waiting at)).refusal (end (waiting at)).applied
unfolding end
end_waiting at =
    elim (length at.splitter.rest == 0) as (λ b. ◌≡◌ {A = Result (Unit {0}) ClientFault} (if b then Ok (tt {0}) else Err (fault.Refused (next_count at.applied) ChannelTruncated)) (answer_by (if b then waiting at else refuse (waiting at) ChannelTruncated).refusal (if b then waiting at else refuse (waiting at) ChannelTruncated).applied)) [ true ↦ refl | false ↦ refl ]

pub end_is : {origin : State} (closed : Option ClientFault) (client : Client) (bytes : List ℕ) → (closed ≡ None → what_next (cursor_of client) ≡ Needs) → StandsFrom origin client bytes → end_of closed (cursor_of client) ≡ ends_from origin closed bytes
end_is (Some f) client bytes needs s = refl
end_is None client bytes needs s =
    end_waiting (cursor_of client)
    ∙ ap (λ (z : Run). answer_by (end z).refusal (end z).applied) (sym (settled_needs (cursor_of client) (needs refl)) ∙ s.run)

-- a drained client stands at the run of its bytes
pub run_drained : {origin : State} (client : Client) (bytes : List ℕ) → StandsFrom origin client bytes → IsDrained client → run_from origin bytes ≡ waiting (cursor_of client)
run_drained client bytes s d = sym s.run ∙ settled_needs (cursor_of client) d.needs
