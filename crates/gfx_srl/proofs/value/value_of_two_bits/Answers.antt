use Rattle.std.proofs.Common.{◌∙◌, ap, sym, arith, to_z, of_z, w32}
use Rattle.gfx_srl.proofs.TwoBits.{three-below, two-bits, two-bits-some}
use Rattle.gfx_srl.proofs.value.value_of_two_bits.Goals as goal

pub bounds-at : goal.bounds-at
bounds-at c = three-below c.args.word c.number_in-at.result (omega arith) c.number_in-at.ensures

pub bounds-at-2 : goal.bounds-at-2
bounds-at-2 c = three-below c.args.word c.number_in-at.result (omega arith) c.number_in-at.ensures

pub returns-clause-value : goal.returns-clause-value
returns-clause-value c shown bits inside high is =
    rw (c.from.ensures, c.from-2.ensures) (two-bits bits c.number_in-at.result (c.number_in-at.ensures shown bits inside high is))

pub returns-clause-some : goal.returns-clause-some
returns-clause-some c e =
    two-bits-some c.number_in-at.result (three-below c.args.word c.number_in-at.result (omega arith) c.number_in-at.ensures) (sym (ap (λ z. to_z w32 (of_z w32 z)) c.from.ensures) ∙ e)
