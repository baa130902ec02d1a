use Rattle.std.proofs.Common.{◌≡◌}
use Rattle.gfx_script.proofs.SparedPictures.{spared_first}
use Rattle.gfx_script.proofs.sparing.spare.Given as goal

abbrev pub invariant-pictures : goal.invariant-pictures
invariant-pictures l = l.pictures.items ≡ spared_first l.place l.first l.marks l.initial.pictures.items
