-- What is wrapped is read back, whatever follows.
use Rattle.std.proofs.Common.{◌≡◌, ℕ, ◌+◌, ◌*◌, ◌^◌, ◌≤◌, ◌<◌, zero, suc, List, [], ◌∷◌, ◌++◌, length, take, drop, Some, Ok, inl, inr, refl, sym, ap, ◌∙◌, append_assoc, arith, length-append, length-take}
use Rattle.std.specs.Int.{w16, w32, to_le_bytes, div_ceil}
use Rattle.std.proofs.lemmas.List.{append-nil, take-append-drop, take_at, drop_at, nil_from_length}
use Rattle.std.proofs.lemmas.Bool.{cases_lt, le-leb, le-ltb, eq-eqb, cond-true, cond-false}
use Rattle.gfx_base.specs.Field.{field}
use Rattle.gfx_base.proofs.FieldLemmas.{number_at-written_2, number_at-written_4}
use Rattle.gfx_base.proofs.ResultLemmas.{and_then_at}
use Rattle.gfx_base.specs.declared.TheConstants.{MOST_MESSAGE}
use Rattle.gfx_segment.specs.declared.profile.TheConstants.{MOST_PAYLOAD, MOST_BLOCK, SINGLE, MULTIPART, RDP8}
use Rattle.gfx_segment.specs.Framing.{Whole, Short, front, front_of, block_data, cut_of, next_block, blocks, segments, payload, sized_block, sized_blocks, message_of, prefixed, wrapped, ReadBack}
use Rattle.gfx_segment.proofs.FrontLemmas.{IsLength, whole_at, Begins, front_at, front_beginning}
use Rattle.gfx_segment.proofs.BlockLemmas.{onto_nil, Counts, segments_whole}
use Rattle.gfx_segment.proofs.WrapLemmas.{Holds, Holds-drop, counted, message_single, message_segments, length-message_segments}

-- a message behind its length ---------------------------------------------------------------------------

front_at_limit : (limit : ℕ) (message more : List ℕ) → IsLength limit (length message) → front_of limit (Some (length message)) (message ++ more) ≡ Whole message more
front_at_limit limit message more h =
    whole_at limit (length message) (message ++ more) h (omega (arith, length-append message more))
    ∙ ap (λ z. Whole z (drop (length message) (message ++ more))) (take_at message more (length message) refl)
    ∙ ap (λ z. Whole message z) (drop_at message more (length message) refl)

-- a message of a fair length is whole behind it, whatever follows
pub front-prefixed : (message more : List ℕ) → IsLength MOST_MESSAGE (length message) → front (prefixed message ++ more) ≡ Whole message more
unfolding prefixed
front-prefixed message more h =
    let most : length message ≤ MOST_MESSAGE = h.most in
    let fits : length message < 2 ^ 32 = omega arith in
    let begins : Begins (length message) (to_le_bytes w32 (length message) ++ (message ++ more)) = record {
      long = omega arith;
      spells = number_at-written_4 [] (message ++ more) (length message) fits;
    }
    in
    ap front (append_assoc (to_le_bytes w32 (length message)) message more)
    ∙ front_at (length message) _ begins
    ∙ front_at_limit MOST_MESSAGE message more h

-- what is cut off inside is short
pub front_prefixed_cut : (message start rest : List ℕ) → IsLength MOST_MESSAGE (length message) → prefixed message ≡ start ++ rest → 0 < length rest → front start ≡ Short
front_prefixed_cut message start rest h cut some =
    front_beginning start rest message (ap front (sym cut ∙ sym (append-nil (prefixed message))) ∙ front-prefixed message [] h) some

-- blocks ------------------------------------------------------------------------------------------------

block_written : (content : List ℕ) → length content ≤ MOST_BLOCK → block_data (RDP8 ∷ content) ≡ Ok content
unfolding block_data
block_written content few = cond-false _ _ _ (le-ltb MOST_BLOCK (length content) few)

field_written_2 : (more : List ℕ) (n : ℕ) → n < 2 ^ 16 → field w16 (to_le_bytes w16 n ++ more) 0 ≡ Some n
unfolding field
field_written_2 more n fits =
    cond-true _ _ _ (le-leb 2 (length (to_le_bytes w16 n ++ more)) (omega arith)) ∙ ap (λ z. Some z) (number_at-written_2 [] more n fits)

field_written_4 : (more : List ℕ) (n : ℕ) → n < 2 ^ 32 → field w32 (to_le_bytes w32 n ++ more) 0 ≡ Some n
unfolding field
field_written_4 more n fits =
    cond-true _ _ _ (le-leb 4 (length (to_le_bytes w32 n ++ more)) (omega arith)) ∙ ap (λ z. Some z) (number_at-written_4 [] more n fits)

cut_written : (block others : List ℕ) → cut_of (Some (length block)) (block ++ others) ≡ Ok (block, others)
unfolding cut_of
cut_written block others =
    cond-true _ _ _ (le-leb (length block) (length (block ++ others)) (omega (arith, length-append block others)))
    ∙ ap (λ z. Ok (z, drop (length block) (block ++ others))) (take_at block others (length block) refl)
    ∙ ap (λ z. Ok (block, z)) (drop_at block others (length block) refl)

next_written : (content others : List ℕ) → length content + 1 < 2 ^ 32 → next_block (sized_block content ++ others) ≡ Ok (RDP8 ∷ content, others)
unfolding next_block sized_block
next_written content others fits =
    ap (λ z. cut_of z (RDP8 ∷ (content ++ others))) (field_written_4 (RDP8 ∷ (content ++ others)) (length content + 1) fits)
    ∙ ap (λ z. cut_of (Some z) (RDP8 ∷ (content ++ others))) (omega arith)
    ∙ cut_written (RDP8 ∷ content) others

-- the size of a block is fair
pub record Fair (most : ℕ) : Type 0 where
  pub most_is : most ≤ MOST_BLOCK

blocks_written : (most count : ℕ) (content : List ℕ) → Fair most → Holds most count content → blocks count (sized_blocks most count content) ≡ Ok (content, [])
unfolding blocks sized_blocks
blocks_written most zero content fair h =
    let all : length content ≤ 0 * most = h.all in
    ap (λ z. Ok (z, [])) (sym (nil_from_length content (omega arith)))
blocks_written most (suc count) content fair h =
    let first = take most content in
    let rest = drop most content in
    let bound : most ≤ MOST_BLOCK = fair.most_is in
    let few : length (take most content) ≤ MOST_BLOCK = omega (arith, length-take most content) in
    and_then_at (next_block (sized_block first ++ sized_blocks most count rest)) (RDP8 ∷ first, sized_blocks most count rest) _ (next_written first (sized_blocks most count rest) (omega arith))
    ∙ and_then_at (block_data (RDP8 ∷ first)) first _ (block_written first few)
    ∙ and_then_at (blocks count (sized_blocks most count rest)) (rest, []) _ (blocks_written most count rest fair (Holds-drop most count content h))
    ∙ ap (λ z. Ok (z, [])) (take-append-drop most content)

-- a multipart message -------------------------------------------------------------------------------------

-- the size stands behind the count
size_written : (count size : ℕ) (more : List ℕ) → size < 2 ^ 32 → field w32 (to_le_bytes w16 count ++ (to_le_bytes w32 size ++ more)) 2 ≡ Some size
unfolding field
size_written count size more fits =
    cond-true _ _ _ (le-leb 6 (length (to_le_bytes w16 count ++ (to_le_bytes w32 size ++ more))) (omega arith))
    ∙ ap (λ z. Some z) (number_at-written_4 (to_le_bytes w16 count) more size fits)

segments_written : (most count : ℕ) (content : List ℕ) → Fair most → Holds most count content → count < 2 ^ 16 → length content < 2 ^ 32 → segments (to_le_bytes w16 count ++ (to_le_bytes w32 (length content) ++ sized_blocks most count content)) ≡ Ok content
segments_written most count content fair h few fits =
    let bytes = to_le_bytes w16 count ++ (to_le_bytes w32 (length content) ++ sized_blocks most count content) in
    let counts : Counts bytes count (length content) = record {
      count_is = field_written_2 (to_le_bytes w32 (length content) ++ sized_blocks most count content) count few;
      size_is = size_written count (length content) (sized_blocks most count content) fits;
    }
    in
    segments_whole bytes count (length content) content [] counts
    (onto_nil (blocks count (sized_blocks most count content)) ∙ blocks_written most count content fair h)
    (eq-eqb (length content) (length content) refl)

-- the whole -------------------------------------------------------------------------------------------------

payload_single : (content : List ℕ) → length content ≤ MOST_BLOCK → payload (SINGLE ∷ RDP8 ∷ content) ≡ Ok content
unfolding payload
payload_single content few = block_written content few

payload_segments : (rest : List ℕ) → payload (MULTIPART ∷ rest) ≡ segments rest
unfolding payload
payload_segments rest = refl

single_back : (content more : List ℕ) → length content ≤ MOST_BLOCK → ReadBack content more
unfolding wrapped
single_back content more few =
    let message = message_of MOST_BLOCK content in
    let size : length message ≡ length content + 2 = ap length (message_single MOST_BLOCK content few) ∙ omega arith in
    record {
      message = message;
      whole = front-prefixed message more (record { some = omega arith; most = omega arith });
      same = ap payload (message_single MOST_BLOCK content few) ∙ payload_single content few;
    }

segments_back : (content more : List ℕ) → MOST_BLOCK < length content → length content ≤ MOST_PAYLOAD → ReadBack content more
unfolding wrapped
segments_back content more many fits =
    let message = message_of MOST_BLOCK content in
    let count = div_ceil (length content) MOST_BLOCK in
    let some : 0 < MOST_BLOCK = omega arith in
    let c = counted MOST_BLOCK content some in
    let bound : count * MOST_BLOCK < length content + MOST_BLOCK = c.few in
    let few : count < 1024 = omega arith in
    let size : length message ≡ 7 + length content + count * 5 = length-message_segments MOST_BLOCK content some many in
    record {
      message = message;
      whole = front-prefixed message more (record { some = omega arith; most = omega arith });
      same = ap payload (message_segments MOST_BLOCK content many)
          ∙ payload_segments (to_le_bytes w16 count ++ (to_le_bytes w32 (length content) ++ sized_blocks MOST_BLOCK count content))
          ∙ segments_written MOST_BLOCK count content (record { most_is = omega arith }) c.holds (omega arith) (omega arith);
    }

-- what is wrapped is one whole message, whatever follows, and its payload is what was wrapped
pub read_back : (content more : List ℕ) → length content ≤ MOST_PAYLOAD → ReadBack content more
read_back content more fits =
    elim (cases_lt MOST_BLOCK (length content)) [
      | inl many ↦ segments_back content more many fits
      | inr few ↦ single_back content more few
    ]
