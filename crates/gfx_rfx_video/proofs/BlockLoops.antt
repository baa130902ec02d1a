-- Blocks to the end of the bytes, one after another: what a loop has to know.
use Rattle.std.proofs.Common.{◌≡◌, ℕ, zero, suc, ◌+◌, ◌≤◌, ◌<◌, true, false, eqb, List, [], ◌∷◌, ◌++◌, length, Result, Ok, Err, refl, sym, ap, ◌∙◌, append_assoc, arith, inl, inr}
use Rattle.std.proofs.lemmas.Bool.{eqb-true, cases_Bool, ne_eqb, eq-eqb}
use Rattle.std.proofs.lemmas.List.{append-nil}
use Rattle.std.specs.Option.{ok_or}
use Rattle.std.specs.Result.{is_ok}
use Rattle.gfx_base.specs.Results.{and_then}
use Rattle.gfx_base.specs.declared.refusal.Refusal.TheVariants.{BlockUnknown}
use Rattle.gfx_base.specs.declared.answer.Cause.{Cause}
use Rattle.gfx_base.specs.declared.answer.Cause.TheVariants.{Refused, Memory}
use Rattle.gfx_base.proofs.ResultLemmas.{and_then_ok, and_then_at, and_then_refused}
use Rattle.gfx_layout.specs.declared.stop.Stop.{Stop}
use Rattle.gfx_layout.specs.declared.stop.Stop.TheVariants.{Rule}
use Rattle.gfx_layout.specs.Reading.{read}
use Rattle.gfx_rfx_video.specs.declared.block.VideoBlock.{VideoBlock}
use Rattle.gfx_rfx_video.specs.Kinds.{block_type_of}
use Rattle.gfx_rfx_video.specs.Layouts.{frame}
use Rattle.gfx_rfx_video.specs.BlockReading.{block_of, block_at, kind_at, begins_block, blocks_within}
use Rattle.gfx_rfx_video.proofs.Frames.{read-frame-takes}

positive : (n : ℕ) → eqb n 0 ≡ false → 0 < n
positive zero e = absurd cc
positive (suc n) e = omega arith

-- a block has six bytes and more
pub block_at-takes : (bytes : List ℕ) (found : VideoBlock × List ℕ) → block_at bytes ≡ Ok found → 6 + length found.1 ≤ length bytes
unfolding block_at
block_at-takes bytes found e =
    let framed = and_then_ok (read frame bytes) _ found e in
    let kind = and_then_ok (ok_or (block_type_of framed.0.0.kind) (Rule BlockUnknown)) _ found framed.2 in
    let block = and_then_ok (block_of kind.0 framed.0.0.body) _ found kind.2 in
    let last = block.2 in
    let same : framed.0.1 ≡ found.1 = cc in
    omega (arith, read-frame-takes bytes framed.0 framed.1, ap length same)

-- where a block stands, one begins
pub block_begins : (bytes : List ℕ) (found : VideoBlock × List ℕ) → block_at bytes ≡ Ok found → begins_block bytes ≡ true
unfolding block_at begins_block kind_at
block_begins bytes found e =
    let framed = and_then_ok (read frame bytes) _ found e in
    let kind = and_then_ok (ok_or (block_type_of framed.0.0.kind) (Rule BlockUnknown)) _ found framed.2 in
    ap is_ok (and_then_at (read frame bytes) framed.0 (λ found. ok_or (block_type_of found.0.kind) (Rule BlockUnknown)) framed.1 ∙ kind.1)

-- what the others are behind a first block
behind : ℕ → VideoBlock × List ℕ → Result (List VideoBlock) Stop
behind most first = and_then (blocks_within most first.1) (λ others. Ok (first.0 ∷ others))

-- nothing is left
pub blocks_within-none : (most : ℕ) (bytes : List ℕ) → length bytes ≡ 0 → blocks_within most bytes ≡ Ok []
unfolding blocks_within
blocks_within-none zero bytes e = refl
blocks_within-none (suc most) bytes e = let test : eqb (length bytes) 0 ≡ true = eq-eqb _ _ e in rw test refl

blocks_within-some : (most : ℕ) (bytes : List ℕ) → 0 < length bytes → blocks_within (suc most) bytes ≡ and_then (block_at bytes) (behind most)
unfolding blocks_within behind
blocks_within-some most bytes some = let test : eqb (length bytes) 0 ≡ false = ne_eqb (length bytes) 0 (λ z. absurd (omega arith)) in rw test refl

-- two readers that agree on what a first step gives agree behind it
and_then-same : {A B E : Type 0} (x : Result A E) (f g : A → Result B E) → ((a : A) → x ≡ Ok a → f a ≡ g a) → and_then x f ≡ and_then x g
unfolding and_then
and_then-same (Ok a) f g same = same a refl
and_then-same (Err e) f g same = refl

-- any bound that is large enough finds the same
pub blocks_within-enough : (some most : ℕ) (bytes : List ℕ) → length bytes ≤ some → length bytes ≤ most → blocks_within some bytes ≡ blocks_within most bytes
unfolding behind
blocks_within-enough zero most bytes a b = blocks_within-none zero bytes (omega arith) ∙ sym (blocks_within-none most bytes (omega arith))
blocks_within-enough (suc some) zero bytes a b = blocks_within-none (suc some) bytes (omega arith) ∙ sym (blocks_within-none zero bytes (omega arith))
blocks_within-enough (suc some) (suc most) bytes a b =
    elim (cases_Bool (eqb (length bytes) 0)) [
      | inl none ↦ let e : length bytes ≡ 0 = eqb-true _ _ none in blocks_within-none (suc some) bytes e ∙ sym (blocks_within-none (suc most) bytes e)
      | inr more ↦
          let there : 0 < length bytes = positive (length bytes) more in
          blocks_within-some some bytes there
          ∙ and_then-same (block_at bytes) (behind some) (behind most)
          (λ first e. ap (λ r. and_then r (λ others. Ok (first.0 ∷ others)))
          (blocks_within-enough some most first.1 (omega (arith, block_at-takes bytes first e)) (omega (arith, block_at-takes bytes first e))))
          ∙ sym (blocks_within-some most bytes there)
    ]

-- blocks that were read, in front of those that the rest has
abbrev pub with_rest : List VideoBlock → List ℕ → Result (List VideoBlock) Stop
with_rest all rest = and_then (blocks_within (length rest) rest) (λ others. Ok (all ++ others))

again : (found : Result (List VideoBlock) Stop) → and_then found (λ others. Ok others) ≡ found
unfolding and_then
again (Ok others) = refl
again (Err stop) = refl

-- before the first
pub blocks-start : (bytes : List ℕ) → with_rest [] bytes ≡ blocks_within (length bytes) bytes
blocks-start bytes = again (blocks_within (length bytes) bytes)

-- where some are left, the first of them is due
pub blocks-some : (rest : List ℕ) → 0 < length rest → blocks_within (length rest) rest ≡ and_then (block_at rest) (λ first. and_then (blocks_within (length first.1) first.1) (λ others. Ok (first.0 ∷ others)))
unfolding behind
blocks-some rest some =
    let n = length rest in
    blocks_within-enough n (suc n) rest (omega arith) (omega arith)
    ∙ blocks_within-some n rest some
    ∙ and_then-same (block_at rest) (behind n) _
    (λ first e. ap (λ r. and_then r (λ others. Ok (first.0 ∷ others)))
    (blocks_within-enough n (length first.1) first.1 (omega (arith, block_at-takes rest first e)) (omega arith)))

shifted : (all : List VideoBlock) (block : VideoBlock) (found : Result (List VideoBlock) Stop) → and_then (and_then found (λ others. Ok (block ∷ others))) (λ others. Ok (all ++ others)) ≡ and_then found (λ others. Ok ((all ++ block ∷ []) ++ others))
unfolding and_then
shifted all block (Ok others) = ap (λ z. Ok z) (sym (append_assoc all (block ∷ []) others))
shifted all block (Err stop) = refl

pub some_left : (rest : List ℕ) → eqb (length rest) 0 ≡ false → 0 < length rest
some_left rest e = positive (length rest) e

-- one more was read
pub blocks-next : (all : List VideoBlock) (rest after : List ℕ) (block : VideoBlock) (due : Result (List VideoBlock) Stop) → eqb (length rest) 0 ≡ false → block_at rest ≡ Ok (block, after) → with_rest all rest ≡ due → with_rest (all ++ block ∷ []) after ≡ due
blocks-next all rest after block due some e so_far =
    sym (ap (λ z. and_then z (λ others. Ok (all ++ others)))
    (blocks-some rest (some_left rest some) ∙ and_then_at (block_at rest) (block, after) _ e)
    ∙ shifted all block (blocks_within (length after) after)) ∙ so_far

-- one could not be read
pub blocks-stop : (all : List VideoBlock) (rest : List ℕ) (stop : Stop) (due : Result (List VideoBlock) Stop) → eqb (length rest) 0 ≡ false → block_at rest ≡ Err stop → with_rest all rest ≡ due → due ≡ Err stop
blocks-stop all rest stop due some e so_far =
    sym so_far ∙ and_then_refused (blocks_within (length rest) rest) stop _ (blocks-some rest (some_left rest some) ∙ and_then_refused (block_at rest) stop _ e)

-- a call failed as is due: what `Gives` says of an error
abbrev pub Fails : {X : Type 0} → Cause Stop → Result X Stop → Type 0
Fails Memory due = Unit {0}
Fails (Refused stop) due = due ≡ Err stop

-- so of a call that reads one
pub blocks-fail : (all : List VideoBlock) (rest : List ℕ) (cause : Cause Stop) (due : Result (List VideoBlock) Stop) → eqb (length rest) 0 ≡ false → Fails cause (block_at rest) → with_rest all rest ≡ due → Fails cause due
blocks-fail all rest Memory due some fails so_far = tt
blocks-fail all rest (Refused stop) due some fails so_far = blocks-stop all rest stop due some fails so_far

-- all were read
pub blocks-end : (all : List VideoBlock) (rest : List ℕ) (due : Result (List VideoBlock) Stop) → eqb (length rest) 0 ≡ true → with_rest all rest ≡ due → due ≡ Ok all
unfolding and_then
blocks-end all rest due none so_far =
    sym so_far ∙ ap (λ z. and_then z (λ others. Ok (all ++ others))) (blocks_within-none (length rest) rest (eqb-true _ _ none)) ∙ ap (λ z. Ok z) (append-nil all)

-- all that such a loop needs
pub ruleset block_loops = (blocks-start, blocks-next, blocks-stop, blocks-end)
