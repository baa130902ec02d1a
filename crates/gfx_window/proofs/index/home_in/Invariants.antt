use Rattle.std.proofs.Common.{◌≡◌, drop}
use Rattle.gfx_window.specs.Index.{home_in}
use Rattle.gfx_window.proofs.index.home_in.Given as goal

abbrev pub invariant-sides : goal.invariant-sides
invariant-sides l = home_in l.count l.hull (drop l.side-index l.sides) ≡ home_in l.count l.hull l.sides
