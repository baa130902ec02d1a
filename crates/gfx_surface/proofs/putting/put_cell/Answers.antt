use Rattle.std.proofs.Common.{◌≡◌, ◌*◌, ◌/◌, ◌∙◌, length, refl, arith}
use Rattle.gfx_surface.proofs.CellPlaces.{cell_within}
use Rattle.gfx_surface.proofs.CellWrites.{whole_written}
use Rattle.gfx_surface.proofs.Places.{right_in, bottom_in}
use Rattle.gfx_surface.proofs.putting.put_cell.Goals as goal

pub copy_run-requires : goal.copy_run-requires
copy_run-requires c =
    let whole = c.requires.cell in
    let wide = right_in c.args.grid.width c.args.grid.height c.args.rect c.requires.inside in
    let high = bottom_in c.args.grid.width c.args.grid.height c.args.rect c.requires.inside in
    let within = cell_within c.args.grid.width c.args.grid.height (c.args.rect.left / 64) (c.args.rect.top / 64) (omega (arith, wide, whole.column, whole.wide)) (omega (arith, high, whole.row, whole.high)) in
    let long : length c.args.from.now ≡ 64 * 64 = c.requires.whole ∙ (λ i. whole.wide i * whole.high i) in
    omega (arith, within, c.cell_start.ensures, c.requires.full, long)

pub returns : goal.returns
returns c =
    whole_written c.args.grid.width c.args.grid.height c.cell_start.result _ c.args.rect c.args.format c.args.from.now c.args.cells.now c.copy_run.new.pixels
    c.requires.cell refl refl c.cell_start.ensures c.requires.full (right_in c.args.grid.width c.args.grid.height c.args.rect c.requires.inside) (bottom_in c.args.grid.width c.args.grid.height c.args.rect c.requires.inside)
    c.requires.whole c.copy_run.ensures
