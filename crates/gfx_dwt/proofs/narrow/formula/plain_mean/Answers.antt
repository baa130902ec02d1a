use Rattle.std.proofs.Common.{arith}
use Rattle.std.proofs.lemmas.Int.{ints}
use Rattle.gfx_dwt.specs.declared.layout.Transform.TheVariants.{Plain}
use Rattle.gfx_dwt.proofs.Bounds.{bits_of_short, halved_above, halved_below}
use Rattle.gfx_dwt.proofs.narrow.formula.plain_mean.Goals as goal

pub returns-clause-small : goal.returns-clause-small
returns-clause-small c =
    rw (bits_of_short _ c.floor_half.type_inv)
    (rw c.floor_half.ensures.value
    (record {
      low = halved_below Plain 8191 _ (omega (arith, ints));
      high = halved_above Plain 8191 _ (omega (arith, ints));
    }))
