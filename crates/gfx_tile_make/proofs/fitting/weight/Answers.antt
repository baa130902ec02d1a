use Rattle.std.proofs.Common.{◌-◌, ◌^◌, ◌≤◌, arith, lit<}
use Rattle.std.proofs.lemmas.Int.{ints}
use Rattle.std.proofs.Math.Nat.{pow-le-pow_right}
use Rattle.gfx_tile_make.proofs.fitting.weight.Goals as goal

pub returns-clause-small : goal.returns-clause-small
returns-clause-small c =
    let few : c.args.position - 1 ≤ 14 = omega arith in
    let small : 2 ^ (c.args.position - 1) ≤ 2 ^ 14 = pow-le-pow_right (lit< tt) few in
    record { low = omega (arith, ints); high = omega (arith, ints) }
