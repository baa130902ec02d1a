use Rattle.std.proofs.Common.{arith}
use Rattle.gfx_rlgr.proofs.Lengths.{bits-counted, few-digits}
use Rattle.gfx_rlgr.proofs.digits.digits_of_large.Goals as goal

pub returns-clause-value : goal.returns-clause-value
returns-clause-value c = bits-counted 128 c.args.number (omega arith)

pub returns-clause-few : goal.returns-clause-few
returns-clause-few c width below = rw (bits-counted 128 c.args.number (omega arith)) (few-digits width c.args.number below)
