use Rattle.std.proofs.Common.{◌≡◌, ◌∙◌, ◌*ℤ◌, ap, FitsSigned, w32}
use Rattle.std.proofs.lemmas.Int.{to_z-of_z}
use Rattle.gfx_quant.specs.Coefficient.{coefficient_of}
use Rattle.gfx_tile_state.proofs.Sums.{times_within, large-bits}
use Rattle.gfx_tile_state.proofs.upgrading.adding.times.Goals as goal

pub returns-clause-small : goal.returns-clause-small
returns-clause-small c =
    let entry : FitsSigned w32 c.args.entry = c.ranges.entry in
    let weight : FitsSigned w32 c.weight.result = record { sfits = c.weight.type_inv } in
    let is : c.weighed.result ≡ coefficient_of c.args.entry c.args.position =
    (simp to_z-of_z at c.weighed.ensures) ∙ ap (λ z. c.args.entry *ℤ z) c.weight.ensures in
    let small = times_within c.weighed.result c.args.entry c.args.position is c.requires.high c.requires.entry in
    rw (large-bits c.weighed.result small) small
