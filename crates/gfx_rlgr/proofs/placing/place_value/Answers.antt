use Rattle.std.proofs.Common.{rules, ◌≡◌, arith}
use Rattle.std.proofs.lemmas.Int.{to_z-of_z}
use Rattle.std.specs.Int.{w16, cast_signed as to_z, cast_unsigned as of_z}
use Rattle.std.specs.Prelude.{FitsSigned}
use Rattle.gfx_rlgr.proofs.Places.{placed-past, placed-value}
use Rattle.gfx_rlgr.proofs.placing.place_value.Goals as goal

pub returns-then-next-ge-TERMS : goal.returns-then-next-ge-TERMS
returns-then-next-ge-TERMS c values is at = placed-past 4096 values _ c.args.out.now c.args.zeros is (omega arith) (omega arith)

pub returns : goal.returns
returns c values is at =
    let fits : FitsSigned w16 c.args.value = search rules in
    let plain : to_z w16 (of_z w16 c.args.value) ≡ c.args.value = to_z-of_z w16 c.args.value fits in
    rw (c.unsigned_abs.ensures.value, plain, at) (placed-value 4096 values c.args.out.now c.args.zeros c.args.value is (omega arith))
