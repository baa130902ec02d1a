use Rattle.std.proofs.Common.{◌≡◌, ◌∙◌, ◌+◌, ◌-◌, ap, sym, subst, List, map, length, get_or}
use Rattle.std.proofs.lemmas.List.{with_items_is}
use Rattle.gfx_base.specs.declared.pixel.Pixel.{Pixel}
use Rattle.gfx_surface.specs.Picture.{IsPicture, shade, no_pixel}
use Rattle.gfx_surface.specs.Rows.{WritesRun}
use Rattle.gfx_surface.specs.Views.{LiesOn, with_cell}
use Rattle.gfx_surface.proofs.PictureLemmas.{of_cells}
use Rattle.gfx_surface.proofs.ViewLemmas.{cells_put_alike, cell_is_picture}
use Rattle.gfx_surface.proofs.surface.Surface.put_cell_as.Goals as goal

pub invariant_of-self : goal.invariant_of-self
invariant_of-self c =
    let items = with_items_is c.self.inside.cells c.copy_run.new.pixels (c.copy_run.auto.pixels ∙ c.deref_mut.ensures.len) in
    let on = subst (λ p. LiesOn p c.args.cell) (sym c.self.view_is) c.requires.cell in
    record {
      shape =
          subst IsPicture (sym (
          ap (λ (cells : List Pixel). of_cells c.self.inside.width c.self.inside.height c.self.inside.format cells) items
          ∙ cells_put_alike c.self.inside.width c.self.inside.height c.cell_start-start.result c.args.cell c.self.inside.format c.args.format c.args.pixels.now c.self.inside.cells.items c.copy_run.new.pixels
          c.cell_start-start.ensures c.self.invariant.full on.column on.row c.requires.whole
          (subst (λ p. map (shade c.args.format) c.args.pixels.now ≡ map (shade p.format) c.args.pixels.now) (sym c.self.view_is) c.requires.alike)
          (subst (λ (cells : List Pixel). WritesRun c.cell_start-start.result (c.cell_start-start.result + length c.args.pixels.now)
          (λ k. get_or (map (shade c.args.format) c.args.pixels.now) (k - c.cell_start-start.result) no_pixel) cells c.copy_run.new.pixels) c.deref_mut.ensures.value c.copy_run.ensures)))
          (cell_is_picture (of_cells c.self.inside.width c.self.inside.height c.self.inside.format c.self.inside.cells.items) c.args.cell c.args.pixels.now c.self.invariant.shape);
      full = ap length items ∙ c.copy_run.auto.pixels ∙ ap length c.deref_mut.ensures.value ∙ c.self.invariant.full;
    }

pub returns : goal.returns
returns c =
    let on = subst (λ p. LiesOn p c.args.cell) (sym c.self.view_is) c.requires.cell in
    ap (λ (cells : List Pixel). of_cells c.self.inside.width c.self.inside.height c.self.inside.format cells) (with_items_is c.self.inside.cells c.copy_run.new.pixels (c.copy_run.auto.pixels ∙ c.deref_mut.ensures.len))
    ∙ cells_put_alike c.self.inside.width c.self.inside.height c.cell_start-start.result c.args.cell c.self.inside.format c.args.format c.args.pixels.now c.self.inside.cells.items c.copy_run.new.pixels
    c.cell_start-start.ensures c.self.invariant.full on.column on.row c.requires.whole
    (subst (λ p. map (shade c.args.format) c.args.pixels.now ≡ map (shade p.format) c.args.pixels.now) (sym c.self.view_is) c.requires.alike)
    (subst (λ (cells : List Pixel). WritesRun c.cell_start-start.result (c.cell_start-start.result + length c.args.pixels.now)
    (λ k. get_or (map (shade c.args.format) c.args.pixels.now) (k - c.cell_start-start.result) no_pixel) cells c.copy_run.new.pixels) c.deref_mut.ensures.value c.copy_run.ensures)
    ∙ ap (λ p. with_cell p c.args.cell c.args.pixels.now) c.self.view_is
