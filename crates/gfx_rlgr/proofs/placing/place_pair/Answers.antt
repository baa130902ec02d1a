use Rattle.std.proofs.Common.{rules, ◌≡◌, arith}
use Rattle.std.proofs.lemmas.Int.{to_z-of_z}
use Rattle.std.specs.Int.{w16, cast_signed as to_z, cast_unsigned as of_z}
use Rattle.std.specs.Prelude.{FitsSigned}
use Rattle.gfx_rlgr.proofs.Places.{placed-pair, placed-cut}
use Rattle.gfx_rlgr.proofs.placing.place_pair.Goals as goal

pub returns-then-next-eq-TERMS : goal.returns-then-next-eq-TERMS
returns-then-next-eq-TERMS c values is at =
    let fits : FitsSigned w16 c.args.one = search rules in
    let plain : to_z w16 (of_z w16 c.args.one) ≡ c.args.one = to_z-of_z w16 c.args.one fits in
    rw (c.unsigned_abs.ensures.value, plain, at) (placed-cut 4096 values c.args.out.now c.args.one c.args.other is (omega arith))

pub returns : goal.returns
returns c values is at =
    let one-fits : FitsSigned w16 c.args.one = search rules in
    let other-fits : FitsSigned w16 c.args.other = search rules in
    let one : to_z w16 (of_z w16 c.args.one) ≡ c.args.one = to_z-of_z w16 c.args.one one-fits in
    let other : to_z w16 (of_z w16 c.args.other) ≡ c.args.other = to_z-of_z w16 c.args.other other-fits in
    rw (c.higher.ensures, c.unsigned_abs-2.ensures.value, c.unsigned_abs-3.ensures.value, one, other, at)
    (placed-pair 4096 values c.args.out.now c.args.one c.args.other is (omega arith))
