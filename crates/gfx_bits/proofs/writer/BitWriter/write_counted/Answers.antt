use Rattle.std.proofs.lemmas.Result.{on_ok_weaker}
use Rattle.gfx_bits.proofs.Zeros.{count-ended, count-unended}
use Rattle.gfx_bits.proofs.writer.BitWriter.write_counted.Goals as goal

pub returns-then-count-most-clause-ok : goal.returns-then-count-most-clause-ok
returns-then-count-most-clause-ok c =
    on_ok_weaker c.push-then-count-most.result
    (λ written.
    count-ended c.args.self.now c.push.new.self c.write_zeros.new.self c.push-then-count-most.new.self c.args.n c.args.value c.args.count c.args.most
    c.if-count-most.true c.in_ok-push.ensures.ok c.in_ok-write_zeros.ensures.ok written)
    c.push-then-count-most.ensures.ok

pub returns-clause-ok : goal.returns-clause-ok
returns-clause-ok c =
    count-unended c.args.self.now c.push.new.self c.write_zeros.new.self c.args.n c.args.value c.args.count c.args.most
    c.if-count-most.false c.in_ok-push.ensures.ok c.in_ok-write_zeros.ensures.ok
