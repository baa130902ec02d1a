-- Each message that a client takes leaves it fewer bytes.
use Rattle.std.proofs.Common.{◌≡◌, ℕ, zero, suc, ◌+◌, ◌≤◌, ◌<◌, ◌==◌, ◌%◌, ◌/◌, nat_lt, nat_le, not, Bool, true, false, cond, ◌&&◌, List, [], ◌∷◌, ◌++◌, length, take, drop, Option, Some, None, Result, Ok, Err, refl, ap, subst, arith, length-append, length-drop}
use Rattle.std.specs.Int.{w16, w32}
use Rattle.std.specs.Option.{ok_or}
use borrow.Author.Tests.{leb-true}
use Rattle.std.proofs.lemmas.List.{length-take-le}
use Rattle.gfx_base.specs.Field.{field}
use Rattle.gfx_base.specs.Results.{check}
use Rattle.gfx_base.proofs.ResultLemmas.{and_then_ok}
use Rattle.gfx_base.specs.declared.refusal.Refusal.{Refusal}
use Rattle.gfx_base.specs.declared.refusal.Refusal.TheVariants.{Descriptor, SegmentSize, BulkCompressed}
use Rattle.gfx_segment.specs.declared.profile.TheConstants.{PREFIX, SINGLE, MULTIPART, RDP8, MOST_BLOCK, SEGMENTS_AT}
use Rattle.gfx_segment.specs.Framing.{block_data, cut_of, next_block, blocks, segments, payload, next}
use Rattle.gfx_segment.proofs.FrontLemmas.{length-front}
use Rattle.gfx_pdu.specs.declared.pdu.Pdu.{Pdu}
use Rattle.gfx_pdu.specs.Reading.{message_at}
use Rattle.gfx_state.specs.State.{State}
use Rattle.gfx_state.specs.Step.{step}
use Rattle.gfx_state.specs.Cursor.{Cursor, Move, Opens, Takes, Needs, Refuses, next_payload, next_state, next_message, what_next, Reaches, Here, Opening, Taking}
use Rattle.gfx_state.proofs.Moves.{next_gives, after_gives}
use Rattle.gfx_state.proofs.Payloads.{message_at_size, message_at_some}

-- a test that passed
passed : {A : Type 0} (test : Bool) (r : Refusal) (x : Result A Refusal) (y : A) → cond test (Err r) x ≡ Ok y → x ≡ Ok y
passed true r x y e = absurd cc
passed false r x y e = e

block_size : (bytes content : List ℕ) → block_data bytes ≡ Ok content → length content ≤ length bytes
unfolding block_data
block_size [] content e = absurd cc
block_size (header ∷ rest) content e =
    let kind = passed (not (header % 16 == RDP8)) Descriptor _ content e in
    let plain = passed (header / 32 % 2 == 1) BulkCompressed _ content kind in
    let few = passed (nat_lt MOST_BLOCK (length rest)) SegmentSize (Ok rest) content plain in
    let same : rest ≡ content = cc in
    let sizes : length rest ≡ length content = ap length same in omega arith

cut_size : (size : Option ℕ) (bytes : List ℕ) (cut : List ℕ × List ℕ) → cut_of size bytes ≡ Ok cut → length cut.0 + length cut.1 ≤ length bytes
unfolding cut_of
cut_size None bytes cut e = absurd cc
cut_size (Some size) bytes cut e =
    elim (nat_le size (length bytes)) as (λ b. nat_le size (length bytes) ≡ b → cond b (Ok (take size bytes, drop size bytes)) (Err SegmentSize) ≡ Ok cut → length cut.0 + length cut.1 ≤ length bytes) [
      | true ↦ λ fits gives.
          let whole : ◌≡◌ {A = List ℕ × List ℕ} (take size bytes, drop size bytes) cut = cc in
          let within : size ≤ length bytes = leb-true size (length bytes) fits in
          let first : length (take size bytes) ≡ length cut.0 = ap (λ z. length z.0) whole in
          let rest : length (drop size bytes) ≡ length cut.1 = ap (λ z. length z.1) whole in
          omega (arith, length-take-le size bytes within, length-drop size bytes)
      | false ↦ λ past gives. absurd cc
    ] refl e

next_block_size : (bytes : List ℕ) (cut : List ℕ × List ℕ) → next_block bytes ≡ Ok cut → length cut.0 + length cut.1 ≤ length bytes
unfolding next_block
next_block_size bytes cut e =
    let inner = cut_size (field w32 bytes 0) (drop PREFIX bytes) cut e in omega (arith, length-drop PREFIX bytes)

blocks_size : (count : ℕ) (bytes : List ℕ) (found : List ℕ × List ℕ) → blocks count bytes ≡ Ok found → length found.0 ≤ length bytes
unfolding blocks
blocks_size zero bytes found e =
    let whole : ◌≡◌ {A = List ℕ × List ℕ} ([], bytes) found = cc in
    let front : [] ≡ found.0 = ap (λ z. z.0) whole in
    let none : 0 ≡ length found.0 = ap length front in omega arith
blocks_size (suc count) bytes found e =
    let cut = and_then_ok (next_block bytes) _ found e in
    let first = and_then_ok (block_data cut.0.0) _ found cut.2 in
    let others = and_then_ok (blocks count cut.0.1) _ found first.2 in
    let last = others.2 in
    let whole : ◌≡◌ {A = List ℕ × List ℕ} (first.0 ++ others.0.0, others.0.1) found = cc in
    let sizes : length (first.0 ++ others.0.0) ≡ length found.0 = ap (λ z. length z.0) whole in
    let a = next_block_size bytes cut.0 cut.1 in
    let b = block_size cut.0.0 first.0 first.1 in
    let c = blocks_size count cut.0.1 others.0 others.1 in
    omega (arith, length-append first.0 others.0.0)

segments_size : (bytes p : List ℕ) → segments bytes ≡ Ok p → length p ≤ length bytes
unfolding segments
segments_size bytes p e =
    let count = and_then_ok (ok_or (field w16 bytes 0) SegmentSize) _ p e in
    let size = and_then_ok (ok_or (field w32 bytes 2) SegmentSize) _ p count.2 in
    let found = and_then_ok (blocks count.0 (drop SEGMENTS_AT bytes)) _ p size.2 in
    let agreed = and_then_ok (check SegmentSize ((length found.0.1 == 0) && (length found.0.0 == size.0))) _ p found.2 in
    let last = agreed.2 in
    let same : found.0.0 ≡ p = cc in
    let sizes : length found.0.0 ≡ length p = ap length same in
    let few = blocks_size count.0 (drop SEGMENTS_AT bytes) found.0 found.1 in
    omega (arith, length-drop SEGMENTS_AT bytes)

-- a payload is shorter than its channel message
pub payload_size : (message p : List ℕ) → payload message ≡ Ok p → length p < length message
unfolding payload
payload_size [] p e = absurd cc
payload_size (descriptor ∷ rest) p e =
    elim (descriptor == SINGLE) as (λ b. cond b (block_data rest) (cond (descriptor == MULTIPART) (segments rest) (Err Descriptor)) ≡ Ok p → length p < length (descriptor ∷ rest)) [
      | true ↦ λ single. let few = block_size rest p single in omega arith
      | false ↦ λ other. elim (descriptor == MULTIPART) as (λ b. cond b (segments rest) (Err Descriptor) ≡ Ok p → length p < length (descriptor ∷ rest)) [
        | true ↦ λ several. let few = segments_size rest p several in omega arith
        | false ↦ λ none. absurd cc
      ] other
    ] e

-- how many bytes a client has yet to use
abbrev pub weight : Cursor → ℕ
weight c = length c.left + length c.splitter.rest

abbrev Lighter : Cursor → Move → Type 0
Lighter c (Opens d) = weight d < weight c
Lighter c (Takes pdu d) = weight d < weight c
Lighter c Needs = Unit {0}
Lighter c (Refuses r) = Unit {0}

lighter_payload : (c : Cursor) (due : Result (Option (List ℕ)) Refusal) → next payload c.splitter ≡ due → Lighter c (next_payload c due)
unfolding next_payload
lighter_payload c (Ok (Some p)) gave =
    let g = next_gives c.splitter.refusal c.splitter.rest p gave in
    let held = after_gives c.splitter p g.message g.after g.none gave g.whole in
    let sizes = length-front c.splitter.rest g.message g.after g.whole in
    let few = payload_size g.message p g.reads in
    rw held (omega arith)
lighter_payload c (Ok None) gave = tt
lighter_payload c (Err r) gave = tt

lighter_state : (c : Cursor) (m : Pdu × ℕ) (due : Result State Refusal) → message_at c.left ≡ Ok (Some m) → Lighter c (next_state c m.0 m.1 due)
unfolding next_state
lighter_state c m (Ok s) read =
    let some = message_at_size c.left m read in
    let there = message_at_some c.left m read in
    omega (arith, length-drop m.1 c.left)
lighter_state c m (Err r) read = tt

lighter_message : (c : Cursor) (due : Result (Option (Pdu × ℕ)) Refusal) → message_at c.left ≡ due → Lighter c (next_message c due)
unfolding next_message
lighter_message c (Ok (Some m)) read = lighter_state c m (step c.state m.0) read
lighter_message c (Ok None) read = lighter_payload c (next payload c.splitter) refl
lighter_message c (Err r) read = tt

lighter : (c : Cursor) → Lighter c (what_next c)
unfolding what_next
lighter c = lighter_message c (message_at c.left) refl

-- each message that was applied took a byte at least
pub weight_reaches : (c d : Cursor) (pdus : List Pdu) → Reaches c pdus d → weight d + length pdus ≤ weight c
weight_reaches c d pdus (Here at) = omega arith
weight_reaches c d pdus (Opening from via to ps first others) =
    let one : weight via < weight from = subst (Lighter from) first (lighter from) in
    let rest = weight_reaches via to ps others in
    omega arith
weight_reaches c d pdus (Taking from via to pdu ps first others) =
    let one : weight via < weight from = subst (Lighter from) first (lighter from) in
    let rest = weight_reaches via to ps others in
    omega arith
