use Rattle.std.proofs.Common.{refl, arith}
use Rattle.hex.specs.Hex.{encode_with}
use Rattle.gfx_report.proofs.Pairs.{low_digit}
use Rattle.gfx_report.proofs.digits.low.Goals as goal

pub returns : goal.returns
unfolding encode_with
returns c = rw c.from.ensures (low_digit _ c.args.byte refl (omega arith))
