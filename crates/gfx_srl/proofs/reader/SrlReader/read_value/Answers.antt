use Rattle.std.proofs.Common.{rules, ◌∙◌, ◌^◌, ◌-◌, ◌≤◌, ◌==◌, ap, refl, arith}
use Rattle.std.proofs.lemmas.Int.{to_z-of_z}
use Rattle.std.proofs.lemmas.Nat.{one_shl}
use Rattle.std.specs.Int.{w32}
use Rattle.std.specs.Prelude.{FitsSigned}
use Rattle.gfx_srl.specs.Steps.{Reader}
use Rattle.gfx_srl.proofs.ReadingSteps.{reads-value, small-value, most-zeros}
use Rattle.gfx_srl.proofs.reader.SrlReader.read_value.Goals as goal

pub overflow_sub-n : goal.overflow_sub-n
overflow_sub-n c = rw (one_shl c.args.n 32 (omega (arith, c.requires.few))) (most-zeros c.args.n c.requires.some c.requires.few).0

most : (c : goal.After-signed) → c.read_zeros-below.result ≤ 2 ^ c.args.n - 2
most c = omega (arith, c.read_zeros-below.ensures.most, one_shl c.args.n 32 (omega (arith, c.requires.few)))

pub signed-requires : goal.signed-requires
signed-requires c =
    omega (arith, c.read_zeros-below.ensures.most, one_shl c.args.n 32 (omega (arith, c.requires.few)), most-zeros c.args.n c.requires.some c.requires.few)

pub returns-clause-value : goal.returns-clause-value
returns-clause-value c =
    let fits : FitsSigned w32 c.signed.result = search rules in
    rw (← c.self.view_is, to_z-of_z w32 c.signed.result fits, c.signed.ensures)
    (reads-value _ c.read_zeros-below.new.self c.after_value-self-inside.result c.self.inside.zeros c.args.n c.read-negative.result c.read_zeros-below.result _
    (ap (λ (r : Reader). r.zeros) c.self.view_is ∙ c.requires.zeros) (ap (λ (r : Reader). r.ends) c.self.view_is ∙ c.requires.ends) c.requires.some c.requires.few
    c.read-negative.ensures.value
    (rw (← c.read-negative.ensures.rest, ← one_shl c.args.n 32 (omega (arith, c.requires.few))) c.read_zeros-below.ensures.spelled)
    (most c) c.after_value-self-inside.ensures refl refl)

pub returns-clause-small : goal.returns-clause-small
returns-clause-small c =
    let fits : FitsSigned w32 c.signed.result = search rules in
    rw (to_z-of_z w32 c.signed.result fits, c.signed.ensures) (small-value (c.read-negative.result == 1) c.read_zeros-below.result c.args.n c.requires.some c.requires.few (most c))
