use Rattle.std.proofs.Common.{◌≡◌, ◌++◌, ◌∷◌, length, take}
use Rattle.std.specs.List.{flat_map}
use Rattle.gfx_clear_runs.specs.Writing.{entry_spelled}
use Rattle.gfx_clear_runs.proofs.write.put_palette.Given as goal

abbrev pub invariant-loop-colour : goal.invariant-loop-colour
invariant-loop-colour l = l.out ≡ l.fn.out ++ length l.colours.items ∷ flat_map entry_spelled (take l.colour-index l.colours.items)
