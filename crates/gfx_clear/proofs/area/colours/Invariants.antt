use Rattle.std.proofs.Common.{◌≡◌}
use Rattle.std.specs.Vec.{vec_len, vec_capacity}
use Rattle.gfx_clear_bands.specs.Bars.{colours}
use Rattle.gfx_clear.proofs.area.colours.Given as goal

abbrev pub invariant-colours : goal.invariant-colours
invariant-colours l = record { items : l.found.items ≡ colours l.n l.bytes; len : vec_len l.found ≡ l.n; room : vec_capacity l.found ≡ l.count }
