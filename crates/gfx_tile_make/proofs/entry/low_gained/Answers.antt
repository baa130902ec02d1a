use Rattle.std.proofs.Common.{◌≡◌, ◌∙◌, ◌-◌, ◌^◌, ◌<◌, ◌≤◌, pos, ◌-ℤ◌, ◌*ℤ◌, ap, sym, arith, lit<, FitsSigned, w32, w64, to_z, of_z}
use Rattle.std.specs.Int.{int_shr}
use Rattle.std.proofs.lemmas.Int.{to_z-of_z}
use Rattle.std.proofs.Math.Nat.{pow-le-pow_right}
use Rattle.gfx_tile_make.proofs.Gains.{low-gained}
use Rattle.gfx_tile_make.proofs.entry.low_gained.Goals as goal

rest-is : (c : goal.After-rest) → c.rest.result ≡ int_shr c.args.value c.args.behind -ℤ int_shr c.args.value c.args.before *ℤ pos (2 ^ (c.args.before - c.args.behind))
rest-is c =
    let floor : FitsSigned w32 c.floored.result = record { sfits = c.floored.type_inv } in
    let coarse : FitsSigned w32 c.floored-2.result = record { sfits = c.floored-2.type_inv } in
    let weight : FitsSigned w32 c.weight.result = record { sfits = c.weight.type_inv } in
    let v = to_z-of_z w32 c.args.value c.ranges.value in
    (simp to_z-of_z at c.rest.ensures)
    ∙ ap (λ z. z -ℤ c.floored-2.result *ℤ c.weight.result) (c.floored.ensures ∙ ap (λ z. int_shr z c.args.behind) v)
    ∙ ap (λ z. int_shr c.args.value c.args.behind -ℤ z *ℤ c.weight.result) (c.floored-2.ensures ∙ ap (λ z. int_shr z c.args.before) v)
    ∙ ap (λ z. int_shr c.args.value c.args.behind -ℤ int_shr c.args.value c.args.before *ℤ z) c.weight.ensures

gain : (c : goal.After-rest) → (r : _) × ((r < 2 ^ (c.args.before - c.args.behind)) × (to_z w64 (of_z w64 c.rest.result) ≡ pos r))
gain c =
    let rest : FitsSigned w64 c.rest.result = record { sfits = c.rest.type_inv } in
    let falls : c.args.behind ≤ c.args.before = omega (arith, c.requires.falls) in
    let due = low-gained c.args.value c.args.before c.args.behind falls in
    (due.0, (due.1.0, to_z-of_z w64 c.rest.result rest ∙ rest-is c ∙ due.1.1))

pub overflow_cast-result : goal.overflow_cast-result
overflow_cast-result c =
    let most : 2 ^ (c.args.before - c.args.behind) ≤ 2 ^ 15 = let few : c.args.before - c.args.behind ≤ 15 = omega (arith, c.requires.few) in pow-le-pow_right (lit< tt) few in
    rw (gain c).1.1 (tt, record { fits = omega (arith, (gain c).1.0) })

pub returns-clause-value : goal.returns-clause-value
returns-clause-value c = rw (gain c).1.1 (sym (gain c).1.1 ∙ to_z-of_z w64 c.rest.result (record { sfits = c.rest.type_inv }) ∙ rest-is c)

pub returns-clause-below : goal.returns-clause-below
returns-clause-below c = rw (gain c).1.1 (gain c).1.0
