use Rattle.std.proofs.Common.{arith}
use Rattle.gfx_quant.specs.Coefficient.{coefficient_of}
use Rattle.gfx_quant.proofs.InRange.{nought_scaled}
use Rattle.gfx_quant.proofs.Steps.{maps_joined}
use Rattle.gfx_quant.proofs.dequantising.narrow_band.Goals as goal

pub returns : goal.returns
returns c =
    maps_joined (λ v. coefficient_of v c.args.position) c.args.from c.min-known.result c.args.to c.args.values.now c.args.out.now _ _ (omega arith) (omega arith)
    (λ k p q. nought_scaled c.args.position _ (c.requires.noughts k p (omega arith) (omega arith))) c.clear.ensures c.narrow.ensures
