use Rattle.gfx_surface.proofs.Places.{run_filled}
use Rattle.gfx_surface.proofs.rows.fill_run.Goals as goal

pub returns : goal.returns
returns c = run_filled _ _ _ _ _ c.requires.ordered c.requires.within (c.fill.ensures.after (λ y same. same))
