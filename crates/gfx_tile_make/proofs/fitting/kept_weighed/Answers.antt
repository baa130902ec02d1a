use Rattle.std.proofs.Common.{◌≡◌, ◌*ℤ◌, ◌∙◌, refl, FitsSigned, w16, w32, lit<}
use Rattle.std.proofs.lemmas.Int.{to_z-of_z}
use Rattle.gfx_dwt.specs.Ranges.{Within}
use Rattle.gfx_tile_make.proofs.Bounds.{of-short, product-within, within-bits}
use Rattle.gfx_tile_make.proofs.fitting.kept_weighed.Goals as goal

pub returns-clause-small : goal.returns-clause-small
returns-clause-small c =
    let fits : FitsSigned w32 c.from.result = record { sfits = c.from.type_inv } in
    let is : c.from.result ≡ c.args.kept = c.from.ensures ∙ to_z-of_z w16 c.args.kept c.ranges.kept in
    let small : Within 536870912 (c.args.kept *ℤ c.args.weight) = product-within 32768 16384 c.args.kept c.args.weight _ refl (of-short c.args.kept c.ranges.kept) c.requires.weight in
    rw (to_z-of_z w32 c.from.result fits, is, to_z-of_z w32 c.args.weight c.ranges.weight, within-bits 536870912 (c.args.kept *ℤ c.args.weight) (lit< tt) small) small
