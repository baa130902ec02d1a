use Rattle.std.proofs.Common.{◌≡◌, ◌+◌, ◌-◌, ◌*◌, ◌++◌, length}
use Rattle.gfx_clear_bands.specs.Writing.{column}
use Rattle.gfx_clear_bands.proofs.column.column_at.Given as goal

abbrev pub invariant-rows : goal.invariant-rows
invariant-rows l = record {
  at : l.at ≡ l.fn.at + l.width * l.row;
  len : length l.found.items ≡ l.row;
  same : l.found.items ++ column l.width l.pixels l.at (l.rows - l.row) ≡ column l.width l.pixels l.fn.at l.rows;
}
