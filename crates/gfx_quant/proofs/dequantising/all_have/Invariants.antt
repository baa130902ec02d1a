use Rattle.gfx_quant.proofs.InRange.{Spans}
use Rattle.gfx_quant.proofs.dequantising.all_have.Given as goal

abbrev pub invariant-loop-place : goal.invariant-loop-place
invariant-loop-place l = Spans l.values l.from l.place l.lowest l.highest
