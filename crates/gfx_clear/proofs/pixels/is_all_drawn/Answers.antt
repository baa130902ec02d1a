use Rattle.std.proofs.Common.{arith}
use Rattle.gfx_clear.proofs.Canvases.{all_over}
use Rattle.gfx_clear.proofs.pixels.is_all_drawn.Goals as goal

pub returns : goal.returns
returns c = λ same pixels e. all_over c.args.canvas.now pixels e (record { all = λ k d less. c.pixels.invariant.all k d (omega (arith, c.pixels-test.false)) })
