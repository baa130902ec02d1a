use Rattle.std.proofs.Common.{◌≡◌, ◌++◌, take}
use Rattle.std.specs.List.{flat_map}
use Rattle.gfx_layout.specs.Shape.{text}
use Rattle.gfx_layout.proofs.putting.put_items.Given as goal

abbrev pub invariant-parts : goal.invariant-parts
invariant-parts g l = l.out ≡ l.initial.out ++ flat_map (text g.T.Part.shape) (take l.part-index l.parts)
