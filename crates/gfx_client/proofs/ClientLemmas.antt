-- What reading, applying and opening come to for a client.
use Rattle.std.proofs.Common.{◌≡◌, ℕ, ◌+◌, ◌%◌, ◌^◌, Bool, List, [], length, drop, true, false, ◌||◌, ◌==◌, Some, None, is_some, cond, if◌then◌else◌, Result, Ok, Err, refl, sym, ap, ◌∙◌, subst, arith}
use Rattle.std.proofs.lemmas.List.{nil_from_length}
use Rattle.std.proofs.lemmas.Bool.{eqb-true}
use Rattle.gfx_base.specs.Memory.{next_count}
use Rattle.gfx_base.specs.Outcome.{Gives, Applies}
use Rattle.gfx_base.specs.declared.refusal.Refusal.{Refusal}
use Rattle.gfx_base.specs.declared.answer.Cause.{Cause}
use Rattle.gfx_base.specs.declared.answer.Cause.TheVariants as fault
use Rattle.gfx_pdu.specs.declared.pdu.Pdu.{Pdu}
use Rattle.gfx_pdu.specs.declared.pdu.Pdu.TheVariants as pdus
use Rattle.gfx_pdu.specs.Borrowed.{found_in}
use Rattle.gfx_pdu.specs.Reading.{next_pdu, message_at, front}
use Rattle.gfx_segment.specs.Framing.{Splitter, next, after_next, payload, ended}
use Rattle.gfx_segment.specs.Payloads.{Payloads}
use Rattle.gfx_segment.specs.Payloads.{Opens as OpensPayload}
use Rattle.gfx_state.specs.State.{State}
use Rattle.gfx_state.specs.Step.{step, frame_ended, is_open}
use Rattle.gfx_state.specs.Cursor.{Cursor, Opens, Needs, what_next, next_message, next_state, Reaches, Here, settled}
use Rattle.gfx_state.specs.Cursor as cursor
use Rattle.gfx_state.proofs.NextMoves.{what_next_takes, what_next_refuses, what_next_unread, what_next_opens, what_next_needs, what_next_ends, next_pdu_found, next_pdu_refused}
use Rattle.gfx_base.specs.Results.{check, and_then}
use Rattle.gfx_base.specs.declared.refusal.Refusal.TheVariants.{ChannelTruncated, FrameMismatch}
use Rattle.gfx_base.proofs.ResultLemmas.{and_then_ok}
use Rattle.gfx_client.specs.declared.fault.ClientFault.{ClientFault}
use Rattle.gfx_client.specs.declared.fault.ClientFault.TheVariants as faults
use Rattle.gfx_state.proofs.Moves.{settled_reaches, settled_ending, next_short, needs_nothing, after_next_fewer, Reaches-opens, Reaches-takes, Reaches-none}
use Rattle.gfx_client.specs.declared.client.Client.{Client}
use Rattle.gfx_client.specs.declared.stepped.Stepped.{Stepped}
use Rattle.gfx_client.specs.declared.stepped.Stepped.TheVariants as stepped
use Rattle.gfx_client.specs.Replies.{acknowledgement, stepped_of}
use Rattle.gfx_client.proofs.NextEffects.{still_coming, coming_takes}
use Rattle.gfx_damage.specs.Damage.{Damage, noted}
use Rattle.gfx_client.specs.Client.{cursor_of, closed_by, damage_of, TakesMessage, TakesOne, OpensMessage, OpensOne, IsAtPayloadEnd, Moves, MovesBy, Ends, Waits, Advances, Steps, end_of}

-- taking a message ---------------------------------------------------------------------------------

-- it can't be read
pub unread : (client : Client) (f : Cause Refusal) → Gives found_in (Err f) (next_pdu client.payloads.left 0) → TakesMessage (Err f) client client
unread client fault.Memory due = refl
unread client (fault.Refused r) due = (what_next_unread (cursor_of client) r (next_pdu_refused client.payloads.left 0 r due), refl)

-- it isn't applied
pub not_applied : (client : Client) (pdu : Pdu) (after : ℕ) (f : Cause Refusal) (state : State) (damage : Damage) → next_pdu client.payloads.left 0 ≡ Ok (Some (pdu, after)) → Applies (Err f) client.state state (step client.state pdu) → damage ≡ client.damage
    → TakesMessage (Err f) client (record client { state = state; damage = damage })
not_applied client pdu after fault.Memory state damage read same kept = λ i. record client { state = same i; damage = kept i }
not_applied client pdu after (fault.Refused r) state damage read due kept =
    let found = next_pdu_found client.payloads.left 0 pdu after read in
    (what_next_refuses (cursor_of client) pdu found.size r found.read due.0, λ i. record client { state = due.1 i; damage = kept i })

-- no reply to it can be made
pub unanswered : (client : Client) (f : Cause Refusal) → f ≡ fault.Memory → TakesMessage (Err f) client client
unanswered client f none = rw none refl

-- where a frame ends, one more is decoded
decoded_ended : (state next : State) (frame : ℕ) → frame_ended state frame ≡ Ok next → (state.decoded + 1) % 2 ^ 32 ≡ next.decoded
unfolding frame_ended
decoded_ended state next frame e =
    let ended = and_then_ok (check FrameMismatch (is_open state.frame frame)) _ next e in
    let made = ended.2 in
    let same : record state { frame = None; decoded = (state.decoded + 1) % 2 ^ 32 } ≡ next = cc in
    ap (λ (s : State). s.decoded) same

-- what is said of a message before it is applied is right after it
said_after : (pdu : Pdu) (size : ℕ) (state next : State) → step state pdu ≡ Ok next → stepped_of pdu size ((state.decoded + 1) % 2 ^ 32) ≡ stepped_of pdu size next.decoded
unfolding step
said_after (pdus.EndFrame frame) size state next e = ap (λ n. stepped.Ended frame size (acknowledgement frame n)) (decoded_ended state next frame e)
said_after other size state next e = refl

-- it is applied
pub taken : (client : Client) (pdu : Pdu) (size applied decoded : ℕ) (payloads : Payloads) (state : State) (damage : Damage) (stepped : Stepped) → next_pdu client.payloads.left 0 ≡ Ok (Some (pdu, size)) → step client.state pdu ≡ Ok state → payloads ≡ record client.payloads { left = drop size client.payloads.left }
    → applied ≡ next_count client.applied → decoded ≡ (client.state.decoded + 1) % 2 ^ 32 → stepped ≡ stepped_of pdu size decoded → damage ≡ noted client.damage client.state pdu
    → TakesOne client (record client { payloads = payloads; state = state; damage = damage; applied = applied }) stepped
taken client pdu size applied decoded payloads state damage stepped read stepping passed counted more says noting =
    let found = next_pdu_found client.payloads.left 0 pdu size read in
    let long : size ≡ found.size = let behind = found.behind in omega arith in
    let all : Payloads → ℕ → Cursor = λ held count. record { splitter = held.splitter; left = held.left; state = state; applied = count } in
    record {
      pdu = pdu;
      size = found.size;
      read = found.read;
      says = says ∙ ap (λ n. stepped_of pdu n decoded) long ∙ ap (stepped_of pdu found.size) more ∙ said_after pdu found.size client.state state stepping;
      takes = what_next_takes (cursor_of client) pdu found.size state found.read stepping
          ∙ ap (λ n. cursor.Takes pdu (all (record client.payloads { left = drop n client.payloads.left }) (next_count client.applied))) (sym long)
          ∙ ap (λ held. cursor.Takes pdu (all held (next_count client.applied))) (sym passed)
          ∙ ap (λ n. cursor.Takes pdu (all payloads n)) (sym counted);
      closed = refl;
      damage = noting;
    }

-- opening a channel message ------------------------------------------------------------------------

-- at its end nothing of a payload is left
none_found : (found : Result (Pdu × ℕ) Refusal) → and_then found (λ m. Ok (Some m)) ≡ Ok None → ⊥
unfolding and_then
none_found (Ok m) e = absurd cc
none_found (Err r) e = absurd cc

pub left_at_end : (bytes : List ℕ) → message_at bytes ≡ Ok None → bytes ≡ []
unfolding message_at
left_at_end bytes e =
    elim (length bytes == 0) as (λ b. length bytes == 0 ≡ b → cond b (Ok None) (and_then (front bytes) (λ m. Ok (Some m))) ≡ Ok None → bytes ≡ []) [
      | true ↦ λ zero none. nil_from_length bytes (eqb-true (length bytes) 0 zero)
      | false ↦ λ zero none. absurd (none_found (front bytes) none)
    ] refl e

-- nor at a cursor that needs more bytes
pub left_waiting : (c : Cursor) → what_next c ≡ Needs → c.left ≡ []
unfolding what_next next_message next_state
left_waiting c e =
    elim (message_at c.left) as (λ q. message_at c.left ≡ q → next_message c q ≡ Needs → c.left ≡ []) [
      | Ok o ↦ elim o as (λ q. message_at c.left ≡ Ok q → next_message c (Ok q) ≡ Needs → c.left ≡ []) [
        | Some m ↦ λ read needs. elim (step c.state m.0) as (λ q. next_state c m.0 m.1 q ≡ Needs → c.left ≡ []) [
          | Ok s ↦ λ none. absurd cc
          | Err r ↦ λ none. absurd cc
        ] needs
        | None ↦ λ read needs. left_at_end c.left read
      ]
      | Err r ↦ λ read needs. absurd cc
    ] refl e

-- a splitter that has refused
kept : (client : Client) (r : Refusal) (held : Splitter) → IsAtPayloadEnd client → next payload client.payloads.splitter ≡ Err r → held ≡ after_next payload client.payloads.splitter
    → settled (record (cursor_of client) { splitter = held }) ≡ settled (cursor_of client)
kept client r held end gave same = ap (λ z. settled (record (cursor_of client) { splitter = z })) same ∙ settled_ending (cursor_of client) r end gave

-- what opening answers, at the end of a payload
pub opened : (client : Client) (result : Result Bool (Cause Refusal)) (payloads : Payloads) → IsAtPayloadEnd client → OpensPayload result client.payloads payloads → OpensMessage result client (record client { payloads = payloads })
opened client (Ok true) payloads end (gave, behind) = record {
  opens = what_next_opens (cursor_of client) payloads.left end gave
      ∙ ap (λ z. Opens (record { splitter = z; left = payloads.left; state = client.state; applied = client.applied })) (sym behind);
  fewer = rw behind (after_next_fewer client.payloads.splitter payloads.left gave);
  closed = refl;
  damage = refl;
}
opened client (Ok false) payloads end (gave, same) = (what_next_needs (cursor_of client) end gave, ap (λ z. record client { payloads = z }) same)
opened client (Err fault.Memory) payloads end same = ap (λ z. record client { payloads = z }) same
opened client (Err (fault.Refused r)) payloads end (gave, same) = (
  what_next_ends (cursor_of client) r end gave,
  record {
    run = ap (λ z. settled (cursor_of (record client { payloads = z }))) same ∙ kept client r _ end gave refl;
    state = refl;
    applied = refl;
    closed = refl;
    damage = refl;
  },
)

-- one message or more ------------------------------------------------------------------------------

-- no message says that more bytes are needed
never_need : (pdu : Pdu) (size decoded : ℕ) → stepped_of pdu size decoded ≡ stepped.Need → ⊥
never_need (pdus.EndFrame frame) size decoded e = absurd cc
never_need other size decoded e = absurd cc

pub not_moved : (client : Client) → Moves client client []
not_moved client = record { reaches = Here (cursor_of client); closed = refl }

-- a channel message was opened on the way
pub moved_on : (old mid new : Client) → Moves old mid [] → OpensOne mid new → Moves old new []
moved_on old mid new m o = record {
  reaches = Reaches-opens (cursor_of old) (cursor_of mid) (cursor_of new) [] m.reaches o.opens;
  closed = o.closed ∙ m.closed;
}

-- a message was applied
moved_one : (old mid new : Client) (said : Stepped) → Moves old mid [] → damage_of mid ≡ damage_of old → TakesOne mid new said → MovesBy old new said
moved_one old mid new said m same t = record {
  pdu = t.pdu;
  size = t.size;
  says = t.says;
  moves = record { reaches = Reaches-takes (cursor_of old) (cursor_of mid) (cursor_of new) [] t.pdu m.reaches t.takes; closed = t.closed ∙ m.closed };
  first = still_coming (cursor_of old) (cursor_of mid) m.reaches ∙ coming_takes (cursor_of mid) (cursor_of new) t.pdu t.size t.read t.takes;
  damage = t.damage ∙ (λ i. noted (same i) ((Reaches-none (cursor_of old) (cursor_of mid) [] m.reaches refl).0 i) t.pdu);
}

pub moved_by : (old mid new : Client) (said : Stepped) → Moves old mid [] → damage_of mid ≡ damage_of old → TakesOne mid new said → Advances (Ok said) old new
moved_by old mid new stepped.Need m same t = absurd (never_need t.pdu t.size _ (sym t.says))
moved_by old mid new other m same t = moved_one old mid new other m same t

-- more bytes are needed
pub waits : (old mid new : Client) → Moves old mid [] → damage_of mid ≡ damage_of old → OpensMessage (Ok false) mid new → Waits old new
waits old mid new m unmarked (needed, same) = record {
  moves = subst (λ z. Moves old z []) (sym same) m;
  needs = ap (λ z. what_next (cursor_of z)) same ∙ needed;
  damage = ap damage_of same ∙ unmarked;
}

-- a fault at the next message
pub stopped_taking : (old mid new : Client) (f : Cause Refusal) → Moves old mid [] → damage_of mid ≡ damage_of old → TakesMessage (Err f) mid new → Advances (Err f) old new
stopped_taking old mid new fault.Memory m unmarked same = (subst (λ z. Moves old z []) (sym same) m, ap damage_of same ∙ unmarked)
stopped_taking old mid new (fault.Refused r) m unmarked (refuses, same) =
    let unchanged = Reaches-none (cursor_of old) (cursor_of mid) [] m.reaches refl in (
      record {
        at = cursor_of mid;
        reaches = m.reaches;
        refuses = refuses;
        run = ap (λ z. settled (cursor_of z)) same ∙ settled_reaches (cursor_of old) (cursor_of mid) [] m.reaches;
        state = ap (λ z. (cursor_of z).state) same ∙ unchanged.0;
        applied = ap (λ z. (cursor_of z).applied) same ∙ unchanged.1;
        damage = ap damage_of same ∙ unmarked;
      },
      ap closed_by same ∙ m.closed,
    )

-- a fault at the next channel message
pub stopped_opening : (old mid new : Client) (f : Cause Refusal) → Moves old mid [] → damage_of mid ≡ damage_of old → OpensMessage (Err f) mid new → Advances (Err f) old new
stopped_opening old mid new fault.Memory m unmarked same = (subst (λ z. Moves old z []) (sym same) m, ap damage_of same ∙ unmarked)
stopped_opening old mid new (fault.Refused r) m unmarked (refuses, stays) =
    let unchanged = Reaches-none (cursor_of old) (cursor_of mid) [] m.reaches refl in (
      record {
        at = cursor_of mid;
        reaches = m.reaches;
        refuses = refuses;
        run = stays.run ∙ settled_reaches (cursor_of old) (cursor_of mid) [] m.reaches;
        state = stays.state ∙ unchanged.0;
        applied = stays.applied ∙ unchanged.1;
        damage = stays.damage ∙ unmarked;
      },
      stays.closed ∙ m.closed,
    )

-- the end of the stream ----------------------------------------------------------------------------

-- where no more messages come, only bytes of an unfinished one can be left
ended_waiting : (held : Splitter) → next payload held ≡ Ok None → ended held ≡ check ChannelTruncated (length held.rest == 0)
unfolding ended
ended_waiting held gave =
    ap (λ z. check ChannelTruncated (is_some z || (length held.rest == 0))) (next_short held.refusal held.rest gave).0

-- what the splitter answers at the end is what the client does
pub end_ok : (client : Client) → closed_by client ≡ None → what_next (cursor_of client) ≡ Needs → ended client.payloads.splitter ≡ Ok tt → Ok tt ≡ end_of (closed_by client) (cursor_of client)
end_ok client none needed due =
    let whole = sym (ended_waiting client.payloads.splitter (needs_nothing (cursor_of client) needed)) ∙ due in
    rw none (elim (length client.payloads.splitter.rest == 0) as (λ b. check ChannelTruncated b ≡ Ok (tt {0}) → ◌≡◌ {A = Result (Unit {0}) ClientFault} (Ok (tt {0})) (if b then Ok (tt {0}) else Err (faults.Refused (next_count client.applied) ChannelTruncated))) [
      | true ↦ λ e. refl
      | false ↦ λ e. absurd cc
    ] whole)

pub end_refused : (client : Client) (r : Refusal) (number : ℕ) → closed_by client ≡ None → what_next (cursor_of client) ≡ Needs → ended client.payloads.splitter ≡ Err r → number ≡ next_count client.applied → Err (faults.Refused number r) ≡ end_of (closed_by client) (cursor_of client)
end_refused client r number none needed due counted =
    let cut = sym (ended_waiting client.payloads.splitter (needs_nothing (cursor_of client) needed)) ∙ due in
    rw (none, counted) (elim (length client.payloads.splitter.rest == 0) as (λ b. check ChannelTruncated b ≡ Err r → ◌≡◌ {A = Result (Unit {0}) ClientFault} (Err (faults.Refused (next_count client.applied) r)) (if b then Ok (tt {0}) else Err (faults.Refused (next_count client.applied) ChannelTruncated))) [
      | true ↦ λ e. absurd cc
      | false ↦ λ e. let same : r ≡ ChannelTruncated = cc in ap (λ z. Err (faults.Refused (next_count client.applied) z)) same
    ] cut)

-- a refusal closes the client
pub closing : (old mid : Client) (r : Refusal) (number : ℕ) → closed_by old ≡ None → Ends old mid r → number ≡ next_count mid.applied → Steps (closed_by old) (Err (faults.Refused number r)) old (record mid { closed = Some (faults.ClosedRefused number r) })
closing old mid r number none e counted =
    rw none (
      record { at = e.at; reaches = e.reaches; refuses = e.refuses; run = e.run; state = e.state; applied = e.applied; damage = e.damage },
      counted ∙ ap next_count e.applied,
      refl,
    )
