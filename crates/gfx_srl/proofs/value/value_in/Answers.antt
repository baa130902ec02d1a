use Rattle.std.proofs.Common.{rules, ◌∙◌, ◌==◌, ◌+◌, ◌-◌, ◌^◌, ℕ, drop, sym, subst, arith}
use Rattle.std.proofs.lemmas.Int.{to_z-of_z}
use Rattle.std.proofs.lemmas.List.{drop-drop}
use Rattle.std.specs.Int.{w32}
use Rattle.std.specs.Prelude.{FitsSigned}
use Rattle.gfx_bits.specs.Bits.{Spelled, zeros_code}
use Rattle.gfx_srl.proofs.ReadingSteps.{below-of, sign-bit, sign-of, small-value}
use Rattle.gfx_srl.proofs.value.value_in.Goals as goal

pub returns-clause-value : goal.returns-clause-value
returns-clause-value c shown bits inside high is =
    let fits : FitsSigned w32 c.signed.result = search rules in
    let most : ℕ = c.most_zeros.result in
    let below : ℕ = c.zeros_behind-below.result.0 in
    let size : ℕ = c.zeros_behind-below.result.1 in
    let negative = c.number_in-negative.result == 1 in
    rw (to_z-of_z w32 c.signed.result fits, c.signed.ensures) (
      sign-of negative below ∙ sign-bit bits c.number_in-negative.result (c.number_in-negative.ensures shown bits (omega arith) high is),
      subst (λ m. Spelled (drop 1 bits) (zeros_code (2 ^ c.args.n - 2) m) (drop (1 + size) bits)) (sym (below-of negative below))
          (subst (λ m. Spelled (drop 1 bits) (zeros_code m below) (drop (1 + size) bits)) c.most_zeros.ensures.most
          (subst (Spelled (drop 1 bits) (zeros_code most below)) (drop-drop size 1 bits)
          (c.zeros_behind-below.ensures.spelled shown bits (omega (arith, c.most_zeros.ensures.most)) high is))),
    )

pub returns-clause-small : goal.returns-clause-small
returns-clause-small c =
    let fits : FitsSigned w32 c.signed.result = search rules in
    rw (to_z-of_z w32 c.signed.result fits, c.signed.ensures)
    (small-value (c.number_in-negative.result == 1) c.zeros_behind-below.result.0 c.args.n c.requires.some (omega (arith, c.requires.few)) (omega (arith, c.zeros_behind-below.ensures.most, c.most_zeros.ensures.most)))
