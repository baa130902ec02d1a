use Rattle.gfx_dwt.proofs.Spans.{Spans}
use Rattle.gfx_dwt.proofs.narrow.range.most_of.Given as goal

abbrev pub invariant-loop-place : goal.invariant-loop-place
invariant-loop-place l = Spans l.values l.place l.lowest l.highest
