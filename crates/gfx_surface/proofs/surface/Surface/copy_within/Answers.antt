use Rattle.std.proofs.Common.{◌∙◌, ap, sym, subst, IsTrue, List, length}
use Rattle.std.proofs.lemmas.List.{with_items_is}
use Rattle.gfx_base.specs.declared.pixel.Pixel.{Pixel}
use Rattle.gfx_base.specs.Geometry.{holds, lies_in, moved}
use Rattle.gfx_surface.specs.Picture.{IsPicture, copied}
use Rattle.gfx_surface.specs.Where.{taken_from}
use Rattle.gfx_surface.proofs.PictureLemmas.{of_cells, cells_moved, copied_is_picture}
use Rattle.gfx_surface.proofs.Wheres.{where_of}
use Rattle.gfx_surface.proofs.surface.Surface.copy_within.Goals as goal

pub invariant_of-self : goal.invariant_of-self
invariant_of-self c =
    let items = with_items_is c.self.inside.cells c.move_rect.new.cells (c.move_rect.auto.cells ∙ c.deref_mut.ensures.len) in
    record {
      shape =
          subst IsPicture (sym (
          ap (λ (cells : List Pixel). of_cells c.self.inside.width c.self.inside.height c.self.inside.format cells) items
          ∙ cells_moved c.self.inside.width c.self.inside.height c.self.inside.format c.args.rect c.args.to c.self.inside.cells.items c.move_rect.new.cells c.self.invariant.shape
          (subst (λ p. IsTrue (lies_in p.width p.height c.args.rect)) (sym c.self.view_is) c.requires.inside)
          (where_of c.grid-grid.result.width c.self.inside.width c.grid-grid.result.height c.self.inside.height (holds (moved c.args.rect c.args.to)) (λ w cells. taken_from w cells c.args.rect c.args.to) c.deref_mut.result.now c.self.inside.cells.items c.move_rect.new.cells
          (c.grid-grid.ensures.width ∙ sym (ap (λ p. p.width) c.self.view_is)) (c.grid-grid.ensures.height ∙ sym (ap (λ p. p.height) c.self.view_is)) c.deref_mut.ensures.value c.move_rect.ensures)))
          (copied_is_picture (of_cells c.self.inside.width c.self.inside.height c.self.inside.format c.self.inside.cells.items) c.args.rect c.args.to (of_cells c.self.inside.width c.self.inside.height c.self.inside.format c.self.inside.cells.items) c.self.invariant.shape);
      full = ap length items ∙ c.move_rect.auto.cells ∙ ap length c.deref_mut.ensures.value ∙ c.self.invariant.full;
    }

pub returns : goal.returns
returns c =
    ap (λ (cells : List Pixel). of_cells c.self.inside.width c.self.inside.height c.self.inside.format cells)
    (with_items_is c.self.inside.cells c.move_rect.new.cells (c.move_rect.auto.cells ∙ c.deref_mut.ensures.len))
    ∙ cells_moved c.self.inside.width c.self.inside.height c.self.inside.format c.args.rect c.args.to c.self.inside.cells.items c.move_rect.new.cells c.self.invariant.shape
    (subst (λ p. IsTrue (lies_in p.width p.height c.args.rect)) (sym c.self.view_is) c.requires.inside)
    (where_of c.grid-grid.result.width c.self.inside.width c.grid-grid.result.height c.self.inside.height (holds (moved c.args.rect c.args.to)) (λ w cells. taken_from w cells c.args.rect c.args.to) c.deref_mut.result.now c.self.inside.cells.items c.move_rect.new.cells
    (c.grid-grid.ensures.width ∙ sym (ap (λ p. p.width) c.self.view_is)) (c.grid-grid.ensures.height ∙ sym (ap (λ p. p.height) c.self.view_is)) c.deref_mut.ensures.value c.move_rect.ensures)
    ∙ ap (λ picture. copied picture c.args.rect c.args.to picture) c.self.view_is
