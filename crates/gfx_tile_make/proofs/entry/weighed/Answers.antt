use Rattle.std.proofs.Common.{◌≡◌, ◌∙◌, ◌*ℤ◌, refl, FitsSigned, w32, w64}
use Rattle.std.proofs.lemmas.Int.{to_z-of_z}
use Rattle.gfx_dwt.specs.Ranges.{Within}
use Rattle.gfx_tile_make.proofs.Bounds.{of-word, product-within, wide-bits}
use Rattle.gfx_tile_make.proofs.entry.weighed.Goals as goal

pub returns-clause-small : goal.returns-clause-small
returns-clause-small c =
    let one : FitsSigned w64 c.from.result = record { sfits = c.from.type_inv } in
    let other : FitsSigned w64 c.from-2.result = record { sfits = c.from-2.type_inv } in
    let value : c.from.result ≡ c.args.value = c.from.ensures ∙ to_z-of_z w32 c.args.value c.ranges.value in
    let weight : c.from-2.result ≡ c.args.weight = c.from-2.ensures ∙ to_z-of_z w32 c.args.weight c.ranges.weight in
    let small : Within 4611686018427387904 (c.args.value *ℤ c.args.weight) = product-within 2147483648 2147483648 c.args.value c.args.weight _ refl (of-word c.args.value c.ranges.value) (of-word c.args.weight c.ranges.weight) in
    rw (to_z-of_z w64 c.from.result one, to_z-of_z w64 c.from-2.result other, value, weight, wide-bits (c.args.value *ℤ c.args.weight) small) small
