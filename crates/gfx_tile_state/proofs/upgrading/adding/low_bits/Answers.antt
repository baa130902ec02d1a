use Rattle.std.proofs.Common.{rules, FitsSigned, to_z, w16, w64, ap, ◌∙◌}
use Rattle.std.proofs.lemmas.Int.{to_z-of_z}
use Rattle.std.specs.Int.RustNames.{unsigned_abs}
use Rattle.gfx_tile_state.proofs.Sums.{sixteen-bits}
use Rattle.gfx_tile_state.proofs.upgrading.adding.low_bits.Goals as goal

pub returns : goal.returns
returns c =
    let fits : FitsSigned w16 c.cast_signed.result = search rules in
    let rest : FitsSigned w64 c.rem_euclid.result = search rules in
    let value = rw (to_z-of_z w64 c.args.sum c.ranges.sum) at c.rem_euclid.ensures.value in
    rw (to_z-of_z w16 c.cast_signed.result fits) (c.cast_signed.ensures ∙ ap (λ z. to_z w16 (unsigned_abs z)) (to_z-of_z w64 c.rem_euclid.result rest ∙ value) ∙ sixteen-bits c.args.sum)
