use Rattle.std.proofs.Common.{◌∙◌, length-take, length-drop, arith}
use Rattle.gfx_surface.proofs.CellWrites.{cell_written}
use Rattle.gfx_surface.proofs.CellPlaces.{cell_within}
use Rattle.gfx_surface.proofs.filling.fill_cell.Goals as goal

pub returns : goal.returns
returns c =
    let within = cell_within c.args.grid.width c.args.grid.height c.args.cell.x c.args.cell.y c.requires.column c.requires.row in
    cell_written c.args.grid.width c.args.grid.height c.cell_start-start.result c.args.cell c.args.rect _ c.args.colour c.args.cells.now c.fill_part.new.cell
    c.cell_start-start.ensures c.requires.full c.requires.column c.requires.row
    (c.fill_part.auto.cell ∙ simp (length-take, length-drop) (omega (arith, within, c.cell_start-start.ensures, c.requires.full)))
    record { left = c.piece_below.ensures; top = c.piece_below-2.ensures; right = c.piece_below-3.ensures; bottom = c.piece_below-4.ensures }
    c.fill_part.ensures
