use Rattle.std.proofs.Common.{◌≡◌, length}
use Rattle.gfx_clear_bands.specs.Bars.{colours}
use Rattle.gfx_clear_bands.proofs.bar.colours.Given as goal

abbrev pub invariant-colours : goal.invariant-colours
invariant-colours l = record {
  items : l.found.items ≡ colours l.n l.bytes;
  len : length l.found.items ≡ l.n;
}
