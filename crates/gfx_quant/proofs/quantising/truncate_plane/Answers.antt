use Rattle.std.proofs.Common.{◌≡◌, length, arith}
use Rattle.gfx_quant.proofs.Smaller.{plane_truncated_within, fewer_by_none}
use Rattle.gfx_quant.proofs.quantising.truncate_plane.Goals as goal

pub returns-clause-exact : goal.returns-clause-exact
returns-clause-exact c = fewer_by_none c.args.transform c.args.level.now.values c.args.values.now c.truncate_bands.new.out c.truncate_bands.ensures

pub returns-clause-kept : goal.returns-clause-kept
returns-clause-kept c = λ bound small.
    let len : length c.args.values.now ≡ 4096 = omega arith in
    let len' : length c.truncate_bands.new.out ≡ 4096 = omega arith in
    plane_truncated_within c.args.transform c.args.level.now.values bound c.args.values.now c.truncate_bands.new.out len len' (returns-clause-exact c) small
