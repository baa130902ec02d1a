use Rattle.std.proofs.Common.{◌+◌, ◌*◌, ◌≤◌}
use Rattle.gfx_chooser.specs.Facts.{colours_in}
use Rattle.gfx_clear_bands.specs.Writing.{band_elements}
use Rattle.gfx_estimate.proofs.Meeting.{MeetsAll, columns_from}
use Rattle.gfx_estimate.proofs.columns.Columns.meet_band.Given as goal

abbrev pub invariant-columns : goal.invariant-columns
invariant-columns l = record {
  within : l.self.bytes ≤ l.fn.self.bytes + 11 + 158 * l.x;
  meets : MeetsAll (band_elements l.picture.width (colours_in l.picture) l.top l.rows) (columns_from l.picture l.top l.rows l.x) l.fn.self l.self;
}
