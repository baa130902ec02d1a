use Rattle.std.proofs.Common.{◌^◌, arith}
use Rattle.std.proofs.lemmas.Int.{ints}
use Rattle.gfx_dwt.proofs.Bounds.{bits_of_small, halved_above, halved_below}
use Rattle.gfx_dwt.proofs.formula.between.Goals as goal

pub returns-clause-small : goal.returns-clause-small
returns-clause-small g c =
    rw (bits_of_small _ c.half.type_inv)
    (rw c.half.ensures.value
    (record {
      low = halved_below g.L.Lifting.transform (2 ^ 28) _ (omega (arith, ints));
      high = halved_above g.L.Lifting.transform (2 ^ 28) _ (omega (arith, ints));
    }))
