-- Blocks one after the other: what is found so far, and what is still due.
use Rattle.std.proofs.Common.{◌≡◌, ℕ, true, false, ◌&&◌, ◌==◌, suc, List, [], ◌++◌, length, drop, Option, Some, None, Result, Ok, Err, refl, sym, ap, ◌∙◌, append_assoc}
use Rattle.std.proofs.lemmas.List.{append-nil}
use Rattle.std.specs.Int.{w16, w32}
use Rattle.std.specs.Option.{ok_or}
use Rattle.std.proofs.lemmas.Bool.{cond-true, cond-false}
use Rattle.gfx_base.specs.Field.{field}
use Rattle.gfx_base.specs.declared.refusal.Refusal.{Refusal}
use Rattle.gfx_base.specs.declared.refusal.Refusal.TheVariants.{SegmentSize}
use Rattle.gfx_base.specs.declared.answer.Cause.{Cause}
use Rattle.gfx_base.specs.declared.answer.Cause.TheVariants.{Refused, Memory}
use Rattle.gfx_base.specs.Outcome.{Gives}
use Rattle.gfx_base.specs.Results.{and_then, check}
use Rattle.gfx_base.proofs.ResultLemmas.{and_then_at, and_then_refused}
use Rattle.gfx_segment.specs.Framing.{block_data, next_block, blocks, segments}
use Rattle.gfx_segment.specs.Pieces.{onto}

pub onto_nil : (found : Result (List ℕ × List ℕ) Refusal) → onto [] found ≡ found
unfolding onto and_then
onto_nil (Ok f) = refl
onto_nil (Err r) = refl

-- what is put before the content of more blocks
onto_onto : (xs ys : List ℕ) (found : Result (List ℕ × List ℕ) Refusal) → onto xs (and_then found (λ f. Ok (ys ++ f.0, f.1))) ≡ onto (xs ++ ys) found
unfolding onto and_then
onto_onto xs ys (Ok f) = ap (λ z. Ok (z, f.1)) (sym (append_assoc xs ys f.0))
onto_onto xs ys (Err r) = refl

-- no block is due
pub onto_none : (before rest : List ℕ) (n : ℕ) → n ≡ 0 → onto before (blocks n rest) ≡ Ok (before, rest)
unfolding onto and_then blocks
onto_none before rest n e = rw e (ap (λ z. Ok (z, rest)) (append-nil before))

-- a block is due, and is there
pub onto_block : (before rest block after content : List ℕ) (n m : ℕ) → n ≡ suc m → next_block rest ≡ Ok (block, after) → block_data block ≡ Ok content → onto before (blocks n rest) ≡ onto (before ++ content) (blocks m after)
unfolding blocks
onto_block before rest block after content n m e cut reads =
    ap (λ z. onto before (blocks z rest)) e
    ∙ ap (onto before) (and_then_at (next_block rest) (block, after) _ cut ∙ and_then_at (block_data block) content _ reads)
    ∙ onto_onto before content (blocks m after)

onto_err : (before : List ℕ) (found : Result (List ℕ × List ℕ) Refusal) (r : Refusal) → found ≡ Err r → onto before found ≡ Err r
unfolding onto
onto_err before found r e = and_then_refused found r _ e

-- it isn't whole
pub onto_cut_refused : (before rest : List ℕ) (n m : ℕ) (r : Refusal) → n ≡ suc m → next_block rest ≡ Err r → onto before (blocks n rest) ≡ Err r
unfolding blocks
onto_cut_refused before rest n m r e cut =
    ap (λ z. onto before (blocks z rest)) e ∙ onto_err before _ r (and_then_refused (next_block rest) r _ cut)

-- it is refused
pub onto_block_refused : (before rest block after : List ℕ) (n m : ℕ) (r : Refusal) → n ≡ suc m → next_block rest ≡ Ok (block, after) → block_data block ≡ Err r → onto before (blocks n rest) ≡ Err r
unfolding blocks
onto_block_refused before rest block after n m r e cut reads =
    ap (λ z. onto before (blocks z rest)) e
    ∙ onto_err before _ r (and_then_at (next_block rest) (block, after) _ cut ∙ and_then_refused (block_data block) r _ reads)

-- a multipart message ---------------------------------------------------------------------------------

-- no number stands there
pub none_read : (read due : Option ℕ) → read ≡ due → ((n : ℕ) → read ≡ Some n → ⊥) → due ≡ None
none_read None due e other = sym e
none_read (Some n) due e other = absurd (other n refl)

pub segments_no_count : (bytes : List ℕ) → field w16 bytes 0 ≡ None → segments bytes ≡ Err SegmentSize
unfolding segments
segments_no_count bytes e = and_then_refused (ok_or (field w16 bytes 0) SegmentSize) SegmentSize _ (ap (λ z. ok_or z SegmentSize) e)

pub segments_no_size : (bytes : List ℕ) (count : ℕ) → field w16 bytes 0 ≡ Some count → field w32 bytes 2 ≡ None → segments bytes ≡ Err SegmentSize
unfolding segments
segments_no_size bytes count e none =
    and_then_at (ok_or (field w16 bytes 0) SegmentSize) count _ (ap (λ z. ok_or z SegmentSize) e)
    ∙ and_then_refused (ok_or (field w32 bytes 2) SegmentSize) SegmentSize _ (ap (λ z. ok_or z SegmentSize) none)

-- the numbers at its front
pub record Counts (bytes : List ℕ) (count size : ℕ) : Type 0 where
  pub count_is : field w16 bytes 0 ≡ Some count
  pub size_is : field w32 bytes 2 ≡ Some size

-- what is due once its blocks are found
abbrev closing : ℕ → List ℕ × List ℕ → Result (List ℕ) Refusal
closing size found = and_then (check SegmentSize (length found.1 == 0 && length found.0 == size)) (λ _. Ok found.0)

segments_at : (bytes : List ℕ) (count size : ℕ) → Counts bytes count size → segments bytes ≡ and_then (blocks count (drop 6 bytes)) (closing size)
unfolding segments
segments_at bytes count size h =
    and_then_at (ok_or (field w16 bytes 0) SegmentSize) count _ (ap (λ z. ok_or z SegmentSize) h.count_is)
    ∙ and_then_at (ok_or (field w32 bytes 2) SegmentSize) size _ (ap (λ z. ok_or z SegmentSize) h.size_is)

pub segments_refused : (bytes : List ℕ) (count size : ℕ) (r : Refusal) → Counts bytes count size → onto [] (blocks count (drop 6 bytes)) ≡ Err r → segments bytes ≡ Err r
segments_refused bytes count size r h e =
    segments_at bytes count size h ∙ and_then_refused (blocks count (drop 6 bytes)) r _ (sym (onto_nil (blocks count (drop 6 bytes))) ∙ e)

-- a call that failed at the blocks failed so
pub segments_failed : {X : Type 0} (bytes : List ℕ) (count size : ℕ) (view : X → List ℕ × List ℕ) (fault : Cause Refusal) → Counts bytes count size → Gives view (Err fault) (onto [] (blocks count (drop 6 bytes))) → Gives (λ (p : List ℕ). p) (Err fault) (segments bytes)
segments_failed bytes count size view Memory h e = tt
segments_failed bytes count size view (Refused r) h e = segments_refused bytes count size r h e

segments_found : (bytes : List ℕ) (count size : ℕ) (content rest : List ℕ) → Counts bytes count size → onto [] (blocks count (drop 6 bytes)) ≡ Ok (content, rest) → segments bytes ≡ closing size (content, rest)
segments_found bytes count size content rest h e =
    segments_at bytes count size h ∙ and_then_at (blocks count (drop 6 bytes)) (content, rest) _ (sym (onto_nil (blocks count (drop 6 bytes))) ∙ e)

-- the last check
pub segments_whole : (bytes : List ℕ) (count size : ℕ) (content rest : List ℕ) → Counts bytes count size → onto [] (blocks count (drop 6 bytes)) ≡ Ok (content, rest) → (length rest == 0 && length content == size) ≡ true → segments bytes ≡ Ok content
segments_whole bytes count size content rest h e agreed =
    segments_found bytes count size content rest h e
    ∙ and_then_at (check SegmentSize (length rest == 0 && length content == size)) tt _ (cond-true _ _ _ agreed)

pub segments_unequal : (bytes : List ℕ) (count size : ℕ) (content rest : List ℕ) → Counts bytes count size → onto [] (blocks count (drop 6 bytes)) ≡ Ok (content, rest) → (length rest == 0 && length content == size) ≡ false → segments bytes ≡ Err SegmentSize
segments_unequal bytes count size content rest h e unequal =
    segments_found bytes count size content rest h e
    ∙ and_then_refused (check SegmentSize (length rest == 0 && length content == size)) SegmentSize _ (cond-false _ _ _ unequal)
