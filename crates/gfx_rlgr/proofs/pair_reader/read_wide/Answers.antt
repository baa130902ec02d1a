use Rattle.std.proofs.Common.{arith}
use Rattle.gfx_rlgr.proofs.Sums.{joined}
use Rattle.gfx_rlgr.proofs.pair_reader.read_wide.Goals as goal

pub overflow_add-result-2 : goal.overflow_add-result-2
overflow_add-result-2 c =
    let whole =
    joined c.args.n c.read.result c.read-2.result c.read-3.result c.args.bits.now _ _ c.requires (omega arith) (omega arith)
    c.read.ensures.value c.read.ensures.rest c.read-2.ensures.value c.read-2.ensures.rest c.read-3.ensures.value in
    record { fits = omega (arith, whole.1) }

pub returns-clause-value : goal.returns-clause-value
returns-clause-value c =
    (joined c.args.n c.read.result c.read-2.result c.read-3.result c.args.bits.now _ _ c.requires (omega arith) (omega arith)
    c.read.ensures.value c.read.ensures.rest c.read-2.ensures.value c.read-2.ensures.rest c.read-3.ensures.value).0
