use Rattle.std.proofs.Common.{◌+◌}
use Rattle.gfx_dwt.specs.Lifting.{odd_of}
use Rattle.gfx_dwt.specs.Ranges.{at}
use Rattle.gfx_dwt.proofs.Pairs.{PairsAre}
use Rattle.gfx_dwt.proofs.narrow.lines.pairs_by.Given as goal

abbrev pub invariant-loop-k : goal.invariant-loop-k
invariant-loop-k g l = PairsAre l.out (at l.evens) (λ k. odd_of g.L.NarrowLifting.transform (at l.edges (k + 1)) (at l.evens k) (at l.evens (k + 1))) l.k
