use Rattle.std.proofs.Common.{◌-◌, FitsSigned, w16, arith, rules}
use Rattle.std.proofs.lemmas.Int.{to_z-of_z}
use Rattle.gfx_dwt.specs.Ranges.{at}
use Rattle.gfx_dwt.proofs.Blocks.{block_is}
use Rattle.gfx_dwt.proofs.narrow.is_flat.Goals as goal

pub returns-clause-behind : goal.returns-clause-behind
returns-clause-behind c = λ _ k p h.
    let plane = c.args.plane.now in
    let value : FitsSigned w16 (at plane 4095) = search rules in
    block_is (at plane 4095) plane c.args.start (4096 - c.args.start) (omega arith)
    (rw (to_z-of_z w16 (at plane 4095) value) at c.if-not-all_are.ensures)
    k p (omega arith)
