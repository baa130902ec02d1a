use Rattle.std.proofs.Common.{◌≡◌, drop}
use Rattle.gfx_window.specs.Hulls.{is_covered_by}
use Rattle.gfx_window.proofs.covering.is_covered.Given as goal

abbrev pub invariant-items : goal.invariant-items
invariant-items l = is_covered_by l.script l.write (drop l.item-index l.items) ≡ is_covered_by l.script l.write l.items
