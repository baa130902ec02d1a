use Rattle.gfx_dwt.specs.Ranges.{at}
use Rattle.gfx_dwt.proofs.Pairs.{PairsAre}
use Rattle.gfx_dwt.proofs.narrow.lines.put_pairs.Given as goal

abbrev pub invariant-loop-k : goal.invariant-loop-k
invariant-loop-k l = PairsAre l.out (at l.evens) (at l.odds) l.k
