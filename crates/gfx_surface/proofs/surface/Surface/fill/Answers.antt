use Rattle.std.proofs.Common.{◌∙◌, ap, sym, subst, List, length}
use Rattle.std.proofs.lemmas.List.{with_items_is}
use Rattle.gfx_base.specs.declared.pixel.Pixel.{Pixel}
use Rattle.gfx_base.specs.Geometry.{holds}
use Rattle.gfx_surface.specs.Picture.{IsPicture, filled}
use Rattle.gfx_surface.proofs.PictureLemmas.{of_cells, cells_filled, filled_is_picture}
use Rattle.gfx_surface.proofs.Wheres.{where_of}
use Rattle.gfx_surface.proofs.surface.Surface.fill.Goals as goal

pub invariant_of-self : goal.invariant_of-self
invariant_of-self c =
    let items = with_items_is c.self.inside.cells c.fill_cells.new.cells (c.fill_cells.auto.cells ∙ c.deref_mut.ensures.len) in
    record {
      shape =
          subst IsPicture (sym (
          ap (λ (cells : List Pixel). of_cells c.self.inside.width c.self.inside.height c.self.inside.format cells) items
          ∙ cells_filled c.self.inside.width c.self.inside.height c.self.inside.format c.args.rect c.args.colour c.shaded-colour.result c.self.inside.cells.items c.fill_cells.new.cells c.shaded-colour.ensures
          (where_of c.grid-grid.result.width c.self.inside.width c.grid-grid.result.height c.self.inside.height (holds c.args.rect) (λ _ _ _ _. c.shaded-colour.result) c.deref_mut.result.now c.self.inside.cells.items c.fill_cells.new.cells
          (c.grid-grid.ensures.width ∙ sym (ap (λ p. p.width) c.self.view_is)) (c.grid-grid.ensures.height ∙ sym (ap (λ p. p.height) c.self.view_is)) c.deref_mut.ensures.value c.fill_cells.ensures)))
          (filled_is_picture (of_cells c.self.inside.width c.self.inside.height c.self.inside.format c.self.inside.cells.items) c.args.rect c.args.colour c.self.invariant.shape);
      full = ap length items ∙ c.fill_cells.auto.cells ∙ ap length c.deref_mut.ensures.value ∙ c.self.invariant.full;
    }

pub returns : goal.returns
returns c =
    ap (λ (cells : List Pixel). of_cells c.self.inside.width c.self.inside.height c.self.inside.format cells)
    (with_items_is c.self.inside.cells c.fill_cells.new.cells (c.fill_cells.auto.cells ∙ c.deref_mut.ensures.len))
    ∙ cells_filled c.self.inside.width c.self.inside.height c.self.inside.format c.args.rect c.args.colour c.shaded-colour.result c.self.inside.cells.items c.fill_cells.new.cells c.shaded-colour.ensures
    (where_of c.grid-grid.result.width c.self.inside.width c.grid-grid.result.height c.self.inside.height (holds c.args.rect) (λ _ _ _ _. c.shaded-colour.result) c.deref_mut.result.now c.self.inside.cells.items c.fill_cells.new.cells
    (c.grid-grid.ensures.width ∙ sym (ap (λ p. p.width) c.self.view_is)) (c.grid-grid.ensures.height ∙ sym (ap (λ p. p.height) c.self.view_is)) c.deref_mut.ensures.value c.fill_cells.ensures)
    ∙ ap (λ picture. filled picture c.args.rect c.args.colour) c.self.view_is
