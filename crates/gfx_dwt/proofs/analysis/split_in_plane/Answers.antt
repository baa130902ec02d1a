use Rattle.std.proofs.Common.{◌≡◌, ◌+◌, ◌-◌, ◌*◌, length, drop, pos, arith}
use Rattle.gfx_dwt.specs.Place.{line_size, part_start}
use Rattle.gfx_dwt.specs.Splitting.{grows}
use Rattle.gfx_dwt.proofs.Planes.{place_in, put_within, part_within}
use Rattle.gfx_dwt.proofs.SplitSame.{grows_two}
use Rattle.gfx_dwt.proofs.SplitLevels.{moved, split_at_same}
use Rattle.std.proofs.lemmas.List.{get_or-take}
use Rattle.gfx_dwt.proofs.Levels.{square_fits}
use Rattle.gfx_dwt.proofs.analysis.split_in_plane.Goals as goal

pub returns-clause-quarters : goal.returns-clause-quarters
returns-clause-quarters c =
    let t = c.args.transform in
    let l = c.args.level in
    let w = line_size t l in
    let plane = c.args.plane.now in
    let part = c.split_level.new.part in
    let e : c.low_size.result + c.high_size.result ≡ w = omega arith in
    let s = part_start t l in
    let fits = square_fits t l in
    let old : length part + (4096 - (c.low_size.result + c.high_size.result) * (c.low_size.result + c.high_size.result)) ≡ 4096 = omega arith in
    let now : length part + s ≡ 4096 = rw e at old in
    let q = rw e at c.split_level.ensures.quarters in
    rw e
    (split_at_same t l s _ _ _
    (λ y x h k. let i = place_in w w y x h k in get_or-take (4096 - s) (drop s plane) (y * w + x) (pos 0) (omega arith))
    (moved t l s (4096 - s) _ plane part q (omega arith) (omega arith)))

pub returns-clause-within : goal.returns-clause-within
returns-clause-within c = λ bound all.
    let two = grows_two c.args.transform c.args.level bound in
    let more = grows_two c.args.transform c.args.level (grows c.args.transform c.args.level * bound) in
    put_within _ _ bound (grows c.args.transform c.args.level * (grows c.args.transform c.args.level * bound)) c.args.plane.now c.split_level.new.part (omega arith) (omega arith) (omega arith) (omega arith) all
    (c.split_level.ensures.within bound (part_within _ _ bound c.args.plane.now all))
