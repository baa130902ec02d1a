use Rattle.std.proofs.Common.{refl, arith}
use Rattle.hex.specs.Hex.{encode_with}
use Rattle.gfx_report.proofs.Pairs.{high_digit}
use Rattle.gfx_report.proofs.digits.high.Goals as goal

pub returns : goal.returns
unfolding encode_with
returns c = rw c.from.ensures (high_digit _ c.args.byte refl (omega arith))
