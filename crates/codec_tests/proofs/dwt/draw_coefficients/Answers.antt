use Rattle.std.proofs.Common.{arith}
use Rattle.codec_tests.proofs.dwt.draw_coefficients.Goals as goal

pub returns : goal.returns
returns c = λ j h. c.loop-k.invariant.drawn j (omega arith)
