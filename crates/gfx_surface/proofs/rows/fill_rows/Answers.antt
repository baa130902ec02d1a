use Rattle.gfx_surface.proofs.Places.{rows_more, left_in, right_in}
use Rattle.gfx_surface.proofs.rows.fill_rows.Goals as goal

pub rows-preserved : goal.rows-preserved
rows-preserved c =
    rows_more _ _ _ _ c.args.rect (λ _ _. c.args.colour) c.args.sides.height _ _ _
    (left_in _ _ c.args.rect c.requires.inside) (right_in _ _ c.args.rect c.requires.inside) c.requires.full c.rows.auto.pixels c.rows.auto.y c.rows.invariant
    (cc) (cc) c.fill_run.ensures
