use Rattle.std.proofs.Common.{◌∙◌, ap, drop, arith}
use Rattle.gfx_bits.proofs.Ahead.{past}
use Rattle.gfx_bits.proofs.reader.BitReader.pass.Goals as goal

pub invariant_of-self : goal.invariant_of-self
invariant_of-self c = (past c.self.inside.ahead c.self.inside.count c.args.n c.self.inside.rest.now (omega arith) c.self.invariant (omega arith)).1

pub returns-then-n-self : goal.returns-then-n-self
returns-then-n-self c =
    (past c.self.inside.ahead c.self.inside.count c.args.n c.self.inside.rest.now (omega arith) c.self.invariant (omega arith)).0
    ∙ ap (drop c.args.n) c.self.view_is
