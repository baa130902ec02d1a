use Rattle.std.proofs.Common.{◌≡◌, ◌∙◌, ◌<◌, ◌≤◌, ◌^◌, ap, pos, arith, FitsSigned, w32, to_z, lit<}
use Rattle.std.proofs.lemmas.Int.{to_z-of_z, ints}
use Rattle.std.proofs.Math.Nat.{pow-le-pow_right}
use Rattle.gfx_bits.proofs.Laws.{number_below}
use Rattle.gfx_tile_state.proofs.Sums.{within_bits}
use Rattle.gfx_tile_state.proofs.entries.read_number.Goals as goal

below : (c : goal.After-read) → c.read.result < 2 ^ c.args.n
below c = omega (arith, c.read.ensures.value, number_below c.args.n c.args.bits.now)

fits : (c : goal.After-read) → FitsSigned w32 (pos c.read.result)
fits c =
    let most : 2 ^ c.args.n ≤ 2 ^ 24 = pow-le-pow_right (lit< tt) c.requires in
    record { sfits = omega (arith, ints, below c) }

plain : (c : goal.After-read) → to_z w32 c.read.result ≡ pos c.read.result
plain c = to_z-of_z w32 (pos c.read.result) (fits c)

pub overflow_cast-result : goal.overflow_cast-result
overflow_cast-result c = fits c

pub returns-clause-value : goal.returns-clause-value
returns-clause-value c = plain c ∙ ap (λ n. pos n) c.read.ensures.value

pub returns-clause-small : goal.returns-clause-small
returns-clause-small c = rw (plain c) (within_bits (pos c.read.result) c.args.n c.requires (below c))
