-- The messages of a payload, from its front.
use Rattle.std.proofs.Common.{◌≡◌, ◌==◌, nat_lt, Bool, true, false, cond, ℕ, zero, suc, ◌≤◌, ◌<◌, List, [], ◌∷◌, length, drop, Some, None, Result, Ok, Err, refl, sym, ap, ◌∙◌, arith, length-drop}
use Rattle.gfx_base.specs.declared.refusal.Refusal.{Refusal}
use Rattle.gfx_base.specs.declared.refusal.Refusal.TheVariants.{PduTruncated, PduLength}
use Rattle.gfx_pdu.specs.declared.pdu.Pdu.{Pdu}
use borrow.Author.Tests.{ltb-false}
use Rattle.std.specs.Int.{w32}
use Rattle.gfx_base.specs.Field.{number_at}
use Rattle.gfx_base.specs.Results.{and_then}
use Rattle.gfx_base.proofs.ResultLemmas.{and_then_ok}
use Rattle.gfx_layout.specs.Header.{size_of}
use Rattle.gfx_pdu.specs.Reading.{message_at, front, kind_of, body_of}
use Rattle.gfx_state.specs.Payload.{none_left, before, found, messages_within, messages_of}

pub message_at-nil : message_at [] ≡ Ok None
unfolding message_at
message_at-nil = refl

-- a test that passed
not_refused : {A : Type 0} (test : Bool) (r : Refusal) (x : Result A Refusal) (y : A) → cond test (Err r) x ≡ Ok y → (test ≡ false) × (x ≡ Ok y)
not_refused true r x y e = absurd cc
not_refused false r x y e = (refl, e)

-- a message has its header
size_of_least : (bytes : List ℕ) (size : ℕ) → size_of bytes ≡ Ok size → 0 < size
unfolding size_of
size_of_least bytes size e =
    let short = not_refused (nat_lt (length bytes) 8) PduTruncated _ size e in
    let header = not_refused (nat_lt (number_at w32 bytes 4) 8) PduLength _ size short.1 in
    let cut = not_refused (nat_lt (length bytes) (number_at w32 bytes 4)) PduTruncated (Ok (number_at w32 bytes 4)) size header.1 in
    let whole : Result ℕ Refusal = Ok (number_at w32 bytes 4) in
    let given : whole ≡ Ok size = cut.1 in
    let same : number_at w32 bytes 4 ≡ size = cc in
    let least : 8 ≤ number_at w32 bytes 4 = ltb-false (number_at w32 bytes 4) 8 header.0 in
    omega arith

front_size : (bytes : List ℕ) (m : Pdu × ℕ) → front bytes ≡ Ok m → size_of bytes ≡ Ok m.1
unfolding front
front_size bytes m e =
    let size = and_then_ok (size_of bytes) _ m e in
    let kind = and_then_ok (kind_of bytes) _ m size.2 in
    let body = and_then_ok (body_of kind.0 _) _ m kind.2 in
    let whole = body.2 in
    let same : size.0 ≡ m.1 = ap (λ z. z.1) (let e : (body.0, size.0) ≡ m = cc in e) in
    size.1 ∙ ap (λ z. Ok z) same

pub message_at_size : (bytes : List ℕ) (m : Pdu × ℕ) → message_at bytes ≡ Ok (Some m) → 0 < m.1
unfolding message_at
message_at_size bytes m e =
    elim (length bytes == 0) as (λ b. cond b (Ok None) (and_then (front bytes) (λ f. Ok (Some f))) ≡ Ok (Some m) → 0 < m.1) [
      | true ↦ λ none. absurd cc
      | false ↦ λ some.
          let found = and_then_ok (front bytes) (λ f. Ok (Some f)) (Some m) some in
          let given = found.2 in
          let same : found.0 ≡ m = cc in
          size_of_least bytes m.1 (front_size bytes m (found.1 ∙ ap (λ z. Ok z) same))
    ] e

-- a message stands in some bytes
pub message_at_some : (bytes : List ℕ) (m : Pdu × ℕ) → message_at bytes ≡ Ok (Some m) → 0 < length bytes
message_at_some [] m e = let none = message_at-nil in absurd cc
message_at_some (x ∷ xs) m e = omega arith

within_none : (most : ℕ) → messages_within most [] ≡ none_left
unfolding messages_within found
within_none zero = refl
within_none (suc most) = ap (λ z. found z (λ size. messages_within most (drop size []))) message_at-nil

-- bounds that are large enough find the same
within_same : (m n : ℕ) (bytes : List ℕ) → length bytes ≤ m → length bytes ≤ n → messages_within m bytes ≡ messages_within n bytes
unfolding messages_within found
within_same m n [] in_m in_n = within_none m ∙ sym (within_none n)
within_same zero n (x ∷ xs) in_m in_n = absurd (omega arith)
within_same (suc m) zero (x ∷ xs) in_m in_n = absurd (omega arith)
within_same (suc m) (suc n) (x ∷ xs) in_m in_n =
    let behind = λ (size : ℕ) (some : 0 < size). within_same m n (drop size (x ∷ xs)) (omega (arith, length-drop size (x ∷ xs))) (omega (arith, length-drop size (x ∷ xs))) in
    elim (message_at (x ∷ xs)) as (λ r. message_at (x ∷ xs) ≡ r → found r (λ size. messages_within m (drop size (x ∷ xs))) ≡ found r (λ size. messages_within n (drop size (x ∷ xs)))) [
      | Ok o ↦ elim o as (λ q. message_at (x ∷ xs) ≡ Ok q → found (Ok q) (λ size. messages_within m (drop size (x ∷ xs))) ≡ found (Ok q) (λ size. messages_within n (drop size (x ∷ xs)))) [
        | None ↦ λ e. refl
        | Some message ↦ λ e. ap (before message) (behind message.1 (message_at_size (x ∷ xs) message e))
      ]
      | Err r ↦ λ e. refl
    ] refl

-- a message stands before those behind it
pub messages_of_more : (bytes : List ℕ) (m : Pdu × ℕ) → message_at bytes ≡ Ok (Some m) → messages_of bytes ≡ before m (messages_of (drop m.1 bytes))
unfolding messages_within found
messages_of_more [] m e = let none = message_at-nil in absurd cc
messages_of_more (x ∷ xs) m e =
    let some : 0 < m.1 = message_at_size (x ∷ xs) m e in
    ap (λ z. found z (λ size. messages_within (length xs) (drop size (x ∷ xs)))) e
    ∙ ap (before m) (within_same (length xs) (length (drop m.1 (x ∷ xs))) (drop m.1 (x ∷ xs)) (omega (arith, length-drop m.1 (x ∷ xs))) (omega arith))

-- nothing can be read behind a message that can't be
pub messages_of_refused : (bytes : List ℕ) (r : Refusal) → message_at bytes ≡ Err r → messages_of bytes ≡ record { read = []; refusal = Some r }
unfolding messages_within found
messages_of_refused [] r e = let none = message_at-nil in absurd cc
messages_of_refused (x ∷ xs) r e = ap (λ z. found z (λ size. messages_within (length xs) (drop size (x ∷ xs)))) e

-- at the end there are none
pub messages_of_none : (bytes : List ℕ) → message_at bytes ≡ Ok None → messages_of bytes ≡ none_left
unfolding messages_within found
messages_of_none [] e = refl
messages_of_none (x ∷ xs) e = ap (λ z. found z (λ size. messages_within (length xs) (drop size (x ∷ xs)))) e
