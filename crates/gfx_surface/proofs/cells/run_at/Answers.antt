use Rattle.std.proofs.Common.{◌≤◌, ◌+◌, subst, sym}
use Rattle.gfx_surface.specs.Cells.{places}
use Rattle.gfx_surface.proofs.CellPlaces.{run_within}
use Rattle.gfx_surface.proofs.cells.run_at.Goals as goal

pub returns-clause-within : goal.returns-clause-within
returns-clause-within c =
    subst (λ n. n + c.args.count ≤ places c.args.grid.width c.args.grid.height) (sym c.place_of.ensures)
    (run_within c.args.grid.width c.args.grid.height c.args.x c.args.y c.args.count c.requires.some c.requires.columns c.requires.row c.requires.one_cell)
