use Rattle.std.proofs.Common.{arith, length-take}
use Rattle.gfx_report.proofs.TookLemmas.{Owes_as, Owes_front, row_cut}
use Rattle.gfx_report.proofs.hashing.add_row.Goals as goal

pub runs-preserved : goal.runs-preserved
runs-preserved c = record {
  within = omega arith;
  owes =
      let cut = Owes_as _ _ _ _ _ (row_cut c.args.surface.now c.runs.x c.args.y c.min-count.result _ (simp length-take (omega arith))) c.runs.invariant.owes in
      Owes_front _ _ _ _ _ _ cut c.add_run.ensures;
}
