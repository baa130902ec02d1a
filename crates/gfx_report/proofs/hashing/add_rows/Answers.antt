use Rattle.gfx_report.proofs.TookLemmas.{Owes_as, Owes_front, rows_cut}
use Rattle.gfx_report.proofs.hashing.add_rows.Goals as goal

pub rows-preserved : goal.rows-preserved
rows-preserved c =
    let cut = Owes_as _ _ _ _ _ (rows_cut c.args.surface.now c.rows.y) c.rows.invariant in
    Owes_front _ _ _ _ _ _ cut c.add_row.ensures
