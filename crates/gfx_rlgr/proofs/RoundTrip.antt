-- What was written says the values.
use Rattle.std.proofs.Common.{◌≡◌, ℕ, true, false, ℤ, pos, List, take, length, refl, sym, ap, ◌∙◌, subst, replicate, Ok}
use Rattle.std.specs.List.{list_all}
use Rattle.std.proofs.lemmas.List.{take_at}
use Rattle.gfx_bits.specs.Bits.{Spelled}
use Rattle.gfx_bits.proofs.Laws.{spelled-front}
use Rattle.gfx_rlgr.specs.declared.mode.Mode.{Mode}
use Rattle.gfx_rlgr.specs.declared.mode.Mode.TheVariants.{Rlgr1}
use Rattle.gfx_rlgr.specs.Code.{start}
use Rattle.gfx_rlgr.specs.Rlgr.{Decodes, Encodes, Rlgr, Written, answer, codes, in_range}

answer-whole : (values : List ℤ) → list_all in_range values ≡ true → Ok values ≡ answer values
unfolding answer
answer-whole values all = rw all refl

pub written-decodes : (mode : Mode) (values : List ℤ) (bytes : List ℕ) → length values ≡ 4096 → list_all in_range values ≡ true → Encodes mode values bytes → Decodes mode bytes (Ok values)
written-decodes mode values bytes count all written = (
  written.tokens,
  record {
    tokens_fit = written.tokens_fit;
    fewest = written.fewest;
    spelled = (
      replicate written.padded.0 false,
      subst (λ b. Spelled b (codes start written.tokens) (replicate written.padded.0 false)) (sym written.padded.2)
          (spelled-front (codes start written.tokens) (replicate written.padded.0 false)),
    );
  },
  answer-whole values all ∙ ap answer (sym (ap (take 4096) written.gives.1 ∙ take_at values (replicate written.gives.0 (pos 0)) 4096 count)),
)

-- in RLGR1
pub written-says : (values : List ℤ) (bytes : List ℕ) → length values ≡ 4096 → list_all in_range values ≡ true → Written values bytes → Rlgr bytes (Ok values)
written-says values bytes count all written = written-decodes Rlgr1 values bytes count all written
