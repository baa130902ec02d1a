use Rattle.std.proofs.Common.{arith}
use Rattle.std.proofs.lemmas.Int.{ints}
use Rattle.gfx_dwt.proofs.Strips.{nought_front}
use Rattle.gfx_dwt.proofs.narrow.grid.noughts.Goals as goal

pub returns-clause-each : goal.returns-clause-each
returns-clause-each c = λ k. nought_front c.args.width 64 k

pub returns-clause-within : goal.returns-clause-within
returns-clause-within c = λ bound k h. rw (nought_front c.args.width 64 k) (record { low = omega (arith, ints); high = omega (arith, ints) })
