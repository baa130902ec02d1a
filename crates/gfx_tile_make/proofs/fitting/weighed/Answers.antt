use Rattle.std.proofs.Common.{◌*ℤ◌, refl, w32, lit<}
use Rattle.std.proofs.lemmas.Int.{to_z-of_z}
use Rattle.gfx_dwt.specs.Ranges.{Within}
use Rattle.gfx_tile_make.proofs.Bounds.{product-within, within-bits}
use Rattle.gfx_tile_make.proofs.fitting.weighed.Goals as goal

small : (c : goal.Start) → Within 1073725440 (c.args.value *ℤ c.args.weight)
small c = product-within 65535 16384 c.args.value c.args.weight _ refl c.requires.value c.requires.weight

pub returns-clause-value : goal.returns-clause-value
returns-clause-value c =
    rw (to_z-of_z w32 c.args.value c.ranges.value, to_z-of_z w32 c.args.weight c.ranges.weight) (within-bits 1073725440 (c.args.value *ℤ c.args.weight) (lit< tt) (small c))

pub returns-clause-small : goal.returns-clause-small
returns-clause-small c =
    rw (to_z-of_z w32 c.args.value c.ranges.value, to_z-of_z w32 c.args.weight c.ranges.weight, within-bits 1073725440 (c.args.value *ℤ c.args.weight) (lit< tt) (small c)) (small c)
