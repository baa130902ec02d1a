use Rattle.std.proofs.Common.{arith}
use Rattle.gfx_quant.proofs.InRange.{fewer_have}
use Rattle.gfx_quant.proofs.dequantising.band_has.Goals as goal

pub returns : goal.returns
returns c =
    fewer_have c.args.position c.args.values.now c.args.from _ c.args.to c.all_have.result (omega arith) (omega arith)
    (λ k p q. c.requires.noughts k p (omega arith) (omega arith)) c.all_have.ensures
