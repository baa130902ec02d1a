use Rattle.std.proofs.Common.{arith}
use Rattle.std.proofs.lemmas.Nat.{one_shl}
use Rattle.gfx_srl.proofs.ReadingSteps.{most-zeros}
use Rattle.gfx_srl.proofs.Together.{few-zeros}
use Rattle.gfx_srl.proofs.value.most_zeros.Goals as goal

pub overflow_sub-result : goal.overflow_sub-result
overflow_sub-result c = rw (one_shl c.args.n 32 (omega (arith, c.requires.few))) (most-zeros c.args.n c.requires.some c.requires.few).0

pub returns-clause-small : goal.returns-clause-small
returns-clause-small c h = omega (arith, one_shl c.args.n 32 (omega (arith, c.requires.few)), few-zeros c.args.n h)
