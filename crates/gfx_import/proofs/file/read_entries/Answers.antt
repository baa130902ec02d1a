use Rattle.std.proofs.Common.{arith}
use Rattle.std.proofs.lemmas.Result.{err_from_is_err_and}
use Rattle.gfx_layout.specs.Reading.{read}
use Rattle.gfx_layout.proofs.EachLoops.{each-fails}
use Rattle.gfx_import.specs.File.{kept_entry}
use Rattle.gfx_import.proofs.file.read_entries.Goals as goal

pub returns-in_err-one-clause-value : goal.returns-in_err-one-clause-value
returns-in_err-one-clause-value c =
    let p = err_from_is_err_and c.from_residual.result c.from_residual.ensures.1 in
    rw (p.1, p.2) (each-fails (read kept_entry) c.entries.entries.items c.args.count c.entries.counter c.entries.fields c.in_err-one.field-0.0 _ (omega arith) c.in_err-one.ensures c.entries.invariant.read_so)
