use Rattle.std.proofs.Common.{◌≡◌, ◌+◌, ◌-◌, ◌*◌, ◌++◌, length}
use Rattle.gfx_chooser.specs.Facts.{colours_in}
use Rattle.gfx_clear_bands.specs.Writing.{column}
use Rattle.gfx_estimate.proofs.columns.column_at.Given as goal

abbrev pub invariant-rows : goal.invariant-rows
invariant-rows l = record {
  len : length l.found.items ≡ l.row;
  same : l.found.items ++ column l.picture.width (colours_in l.picture) (l.top * l.picture.width + l.x + l.picture.width * l.row) (l.rows - l.row)
      ≡ column l.picture.width (colours_in l.picture) (l.top * l.picture.width + l.x) l.rows;
}
