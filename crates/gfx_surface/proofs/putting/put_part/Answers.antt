use Rattle.gfx_surface.proofs.Runs.{part_put}
use Rattle.gfx_surface.proofs.putting.put_part.Goals as goal

pub returns-then-not-is_empty : goal.returns-then-not-is_empty
returns-then-not-is_empty c =
    part_put c.args.grid.width c.args.grid.height c.args.x c.args.y c.run_at-at.result c.args.format c.args.from.now c.args.cells.now c.copy_run.new.pixels
    c.requires.full c.requires.columns c.requires.row c.requires.one_cell c.run_at-at.ensures.at c.copy_run.ensures
