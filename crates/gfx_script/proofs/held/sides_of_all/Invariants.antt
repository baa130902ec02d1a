use Rattle.std.proofs.Common.{◌≡◌, ◌++◌, drop}
use Rattle.gfx_script.specs.Checks.{sides_of_all}
use Rattle.gfx_script.proofs.held.sides_of_all.Given as goal

abbrev pub invariant-pictures : goal.invariant-pictures
invariant-pictures l = sides_of_all l.pictures ≡ l.sides.items ++ sides_of_all (drop l.picture-index l.pictures)
