use Rattle.std.proofs.Common.{◌-◌, ◌^◌, ◌≤◌, arith, lit<}
use Rattle.std.proofs.lemmas.Int.{ints}
use Rattle.std.proofs.Math.Nat.{pow-le-pow_right}
use Rattle.gfx_tile_state.proofs.upgrading.adding.weight.Goals as goal

pub returns : goal.returns
returns c =
    let few : c.args.position - 1 ≤ 29 = omega arith in
    let small : 2 ^ (c.args.position - 1) ≤ 2 ^ 29 = pow-le-pow_right (lit< tt) few in
    omega (arith, ints)
