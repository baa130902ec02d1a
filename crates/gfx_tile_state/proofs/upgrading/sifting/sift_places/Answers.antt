use Rattle.std.proofs.Common.{rules, arith, FitsSigned, w16}
use Rattle.std.proofs.lemmas.Int.{to_z-of_z}
use Rattle.gfx_dwt.specs.Ranges.{at}
use Rattle.gfx_tile_state.proofs.PlaceLists.{place-listed}
use Rattle.gfx_tile_state.proofs.upgrading.sifting.sift_places.Goals as goal

pub loop-at-preserved : goal.loop-at-preserved
loop-at-preserved c =
    let i = c.loop-at.at in
    let plane = c.args.plane.now in
    let was : FitsSigned w16 (at plane i) = search rules in
    place-listed plane c.args.from i c.loop-at.count c.nought-count.result c.loop-at.noughts c.loop-at.others (omega arith) (omega arith)
    (rw (to_z-of_z w16 (at plane i) was) at c.nought-count.ensures) c.loop-at.invariant
