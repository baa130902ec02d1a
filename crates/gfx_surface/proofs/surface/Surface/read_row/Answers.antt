use Rattle.std.proofs.Common.{◌≡◌, ◌∙◌, ◌+◌, ◌<◌, ◌≤◌, ap, sym, subst, length, arith}
use Rattle.gfx_surface.specs.Picture.{IsPicture, pixel_at}
use Rattle.gfx_surface.specs.Cells.{kept_at}
use Rattle.gfx_surface.proofs.PictureLemmas.{pixel_at-of_cells, run_read}
use Rattle.gfx_surface.proofs.surface.Surface.read_row.Goals as goal

pub returns : goal.returns
returns c =
    let columns : c.args.x + length c.args.out.now ≤ c.self.inside.width = subst (λ p. c.args.x + length c.args.out.now ≤ p.width) (sym c.self.view_is) c.requires.columns in
    let row : c.args.y < c.self.inside.height = subst (λ p. c.args.y < p.height) (sym c.self.view_is) c.requires.row in
    let wide : c.grid.result.width ≡ c.self.inside.width = c.grid.ensures.width ∙ sym (ap (λ p. p.width) c.self.view_is) in
    run_read c.args.self.now c.args.x c.args.y (length c.args.out.now) c.read_row.new.out (subst IsPicture c.self.view_is c.self.invariant.shape)
    c.read_row.auto.out c.requires.columns c.requires.row
    (λ k below.
    c.read_row.ensures k _ below
    ∙ (λ i. kept_at (wide i) (c.deref.ensures.value i) (c.args.x + k) c.args.y)
    ∙ sym (pixel_at-of_cells c.self.inside.width c.self.inside.height c.self.inside.format c.self.inside.cells.items (c.args.x + k) c.args.y (omega (arith, columns, below)) row)
    ∙ ap (λ p. pixel_at p (c.args.x + k) c.args.y) c.self.view_is)
