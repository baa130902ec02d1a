use Rattle.std.proofs.Common.{arith}
use Rattle.std.proofs.lemmas.Result.{err_from_is_err_and}
use Rattle.gfx_layout.specs.Reading.{read}
use Rattle.gfx_layout.proofs.EachLoops.{each-fails}
use Rattle.gfx_caps.specs.Layouts.{caps_set}
use Rattle.gfx_caps.proofs.reading.read_sets.Goals as goal

pub returns-in_err-set : goal.returns-in_err-set
returns-in_err-set c =
    let p = err_from_is_err_and c.from_residual.result c.from_residual.ensures.1 in
    rw (p.1, p.2) (each-fails (read caps_set) c.sets.sets c.args.count c.sets.counter c.sets.fields c.in_err-set.field-0.0 _ (omega arith) c.in_err-set.ensures c.sets.invariant)
