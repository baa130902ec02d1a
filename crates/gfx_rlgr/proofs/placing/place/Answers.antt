use Rattle.std.proofs.Common.{◌∙◌, ap, ◌+◌, min, arith}
use Rattle.gfx_rlgr.proofs.Places.{placed-zeros}
use Rattle.gfx_rlgr.proofs.placing.place.Goals as goal

pub returns-in-Zeros : goal.returns-in-Zeros
returns-in-Zeros c values is at =
    rw c.in-Zeros.is (placed-zeros 4096 values c.args.out.now c.in-Zeros.zeros c.min.result is (omega arith) (c.min.ensures ∙ ap (λ n. min 4096 (n + c.in-Zeros.zeros)) at))
