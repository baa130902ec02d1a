use Rattle.std.proofs.Common.{◌≡◌, take}
use Rattle.std.specs.List.{sum_by}
use Rattle.gfx_caps.specs.Spelling.{set_size}
use Rattle.gfx_caps.proofs.bodies.sets_size.Given as goal

abbrev pub invariant-sets : goal.invariant-sets
invariant-sets l = l.size ≡ sum_by set_size (take l.set-index l.sets)
