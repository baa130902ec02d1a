use Rattle.std.proofs.Common.{◌+◌, ◌-◌}
use Rattle.gfx_clear_bands.specs.Writing.{columns_of, output}
use Rattle.gfx_clear_bands.proofs.Outputs.{Going}
use Rattle.gfx_clear_bands.proofs.writing.write_columns.Given as goal

abbrev pub invariant-columns : goal.invariant-columns
invariant-columns l =
    Going (columns_of l.width l.pixels l.background l.rows l.start l.width) (columns_of l.width l.pixels l.background l.rows (l.start + l.x) (l.width - l.x))
    (output l.fn.store l.fn.out) (output l.store l.out)
