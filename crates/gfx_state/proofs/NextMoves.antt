-- Which move comes next, by what is read at a cursor.
use Rattle.std.proofs.Common.{◌≡◌, ℕ, ◌+◌, List, drop, Option, Some, None, Result, Ok, Err, sym, ap, ◌∙◌}
use Rattle.std.specs.Option.{option_map}
use Rattle.gfx_base.specs.Memory.{next_count}
use Rattle.gfx_base.specs.Results.{and_then}
use Rattle.gfx_base.proofs.ResultLemmas.{and_then_ok, and_then-Ok, and_then-Err}
use Rattle.gfx_base.specs.declared.refusal.Refusal.{Refusal}
use Rattle.gfx_pdu.specs.declared.pdu.Pdu.{Pdu}
use Rattle.gfx_pdu.specs.Reading.{message_at, next_pdu}
use Rattle.gfx_segment.specs.Framing.{next, after_next, payload}
use Rattle.gfx_state.specs.State.{State}
use Rattle.gfx_state.specs.Step.{step}
use Rattle.gfx_state.specs.Cursor.{Cursor, Opens, Takes, Needs, Refuses, next_payload, next_state, next_message, what_next}

-- a message that is read and applied
pub what_next_takes : (c : Cursor) (pdu : Pdu) (size : ℕ) (s : State) → message_at c.left ≡ Ok (Some (pdu, size)) → step c.state pdu ≡ Ok s → what_next c ≡ Takes pdu (record c { left = drop size c.left; state = s; applied = next_count c.applied })
unfolding what_next next_message next_state
what_next_takes c pdu size s read stepped = ap (next_message c) read ∙ ap (next_state c pdu size) stepped

-- a message that is read and refused
pub what_next_refuses : (c : Cursor) (pdu : Pdu) (size : ℕ) (r : Refusal) → message_at c.left ≡ Ok (Some (pdu, size)) → step c.state pdu ≡ Err r → what_next c ≡ Refuses r
unfolding what_next next_message next_state
what_next_refuses c pdu size r read stepped = ap (next_message c) read ∙ ap (next_state c pdu size) stepped

-- a message that can't be read
pub what_next_unread : (c : Cursor) (r : Refusal) → message_at c.left ≡ Err r → what_next c ≡ Refuses r
unfolding what_next next_message
what_next_unread c r read = ap (next_message c) read

-- the end of a payload: what the splitter answers
pub what_next_opens : (c : Cursor) (p : List ℕ) → message_at c.left ≡ Ok None → next payload c.splitter ≡ Ok (Some p) → what_next c ≡ Opens (record c { splitter = after_next payload c.splitter; left = p })
unfolding what_next next_message next_payload
what_next_opens c p none gave = ap (next_message c) none ∙ ap (next_payload c) gave

pub what_next_needs : (c : Cursor) → message_at c.left ≡ Ok None → next payload c.splitter ≡ Ok None → what_next c ≡ Needs
unfolding what_next next_message next_payload
what_next_needs c none gave = ap (next_message c) none ∙ ap (next_payload c) gave

pub what_next_ends : (c : Cursor) (r : Refusal) → message_at c.left ≡ Ok None → next payload c.splitter ≡ Err r → what_next c ≡ Refuses r
unfolding what_next next_message next_payload
what_next_ends c r none gave = ap (next_message c) none ∙ ap (next_payload c) gave

-- the message at a place is the one at the front of what is left from there on
pub record IsFound (left : List ℕ) (at : ℕ) (pdu : Pdu) (after : ℕ) : Type 0 where
  pub size : ℕ
  pub read : message_at left ≡ Ok (Some (pdu, size))
  pub behind : after ≡ at + size

-- what was found, with the place behind it
abbrev moved : ℕ → Option (Pdu × ℕ) → Result (Option (Pdu × ℕ)) Refusal
moved at found = Ok (option_map (λ m. (m.0, at + m.1)) found)

pub next_pdu_found : (bytes : List ℕ) (at : ℕ) (pdu : Pdu) (after : ℕ) → next_pdu bytes at ≡ Ok (Some (pdu, after)) → IsFound (drop at bytes) at pdu after
unfolding next_pdu
next_pdu_found bytes at pdu after e =
    let step = and_then_ok (message_at (drop at bytes)) _ (Some (pdu, after)) e in
    elim step.0 as (λ o. message_at (drop at bytes) ≡ Ok o → moved at o ≡ Ok (Some (pdu, after)) → IsFound (drop at bytes) at pdu after) [
      | None ↦ λ read gives. absurd cc
      | Some m ↦ λ read gives.
          let same : ◌≡◌ {A = Pdu × ℕ} (m.0, at + m.1) (pdu, after) = cc in
          let first : m.0 ≡ pdu = ap (λ z. z.0) same in
          let place : at + m.1 ≡ after = ap (λ z. z.1) same in
          record { size = m.1; read = read ∙ ap (λ z. Ok (Some (z, m.1))) first; behind = sym place }
    ] step.1 step.2

pub next_pdu_none : (bytes : List ℕ) (at : ℕ) → next_pdu bytes at ≡ Ok None → message_at (drop at bytes) ≡ Ok None
unfolding next_pdu
next_pdu_none bytes at e =
    let step = and_then_ok (message_at (drop at bytes)) _ None e in
    elim step.0 as (λ o. message_at (drop at bytes) ≡ Ok o → moved at o ≡ Ok None → message_at (drop at bytes) ≡ Ok None) [
      | None ↦ λ read gives. read
      | Some m ↦ λ read gives. absurd cc
    ] step.1 step.2

pub next_pdu_refused : (bytes : List ℕ) (at : ℕ) (r : Refusal) → next_pdu bytes at ≡ Err r → message_at (drop at bytes) ≡ Err r
unfolding next_pdu
next_pdu_refused bytes at r e =
    elim (message_at (drop at bytes)) as (λ q. and_then q (moved at) ≡ Err r → q ≡ Err r) [
      | Ok o ↦ λ refuses. let gives = sym (and_then-Ok o (moved at)) ∙ refuses in absurd cc
      | Err s ↦ λ refuses. sym (and_then-Err s (moved at)) ∙ refuses
    ] e
