use Rattle.std.proofs.Common.{◌≡◌, ◌++◌, take}
use Rattle.std.specs.List.{flat_map}
use Rattle.gfx_caps.specs.Spelling.{set_text}
use Rattle.gfx_caps.proofs.bodies.put_sets.Given as goal

abbrev pub invariant-sets : goal.invariant-sets
invariant-sets l = l.out ≡ l.initial.out ++ flat_map set_text (take l.set-index l.sets)
