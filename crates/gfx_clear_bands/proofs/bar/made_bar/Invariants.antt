use Rattle.std.proofs.Common.{◌≡◌, ◌++◌, length, take, replicate}
use Rattle.gfx_clear_bands.proofs.bar.made_bar.Given as goal

abbrev pub invariant-rows : goal.invariant-rows
invariant-rows l = record {
  items : l.bar.items ≡ take l.row (replicate l.on l.background ++ (l.short ++ replicate l.height l.background));
  len : length l.bar.items ≡ l.row;
}
