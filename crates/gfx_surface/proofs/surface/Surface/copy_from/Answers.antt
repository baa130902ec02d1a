use Rattle.std.proofs.Common.{◌∙◌, ap, sym, subst, IsTrue, List, length}
use Rattle.std.proofs.lemmas.List.{with_items_is}
use Rattle.gfx_base.specs.declared.pixel.Pixel.{Pixel}
use Rattle.gfx_base.specs.Geometry.{holds, lies_in, moved}
use Rattle.gfx_surface.specs.Picture.{IsPicture, copied, shade}
use Rattle.gfx_surface.specs.Where.{taken_from}
use Rattle.gfx_surface.proofs.PictureLemmas.{of_cells, cells_copied, copied_is_picture}
use Rattle.gfx_surface.proofs.Wheres.{where_of, where_told}
use Rattle.gfx_surface.proofs.surface.Surface.copy_from.Goals as goal

pub invariant_of-self : goal.invariant_of-self
invariant_of-self c = record {
  shape =
      subst IsPicture (sym (
      ap (λ (cells : List Pixel). of_cells c.self.inside.width c.self.inside.height c.self.inside.format cells) (with_items_is c.self.inside.cells c.copy_rect.new.cells (c.copy_rect.auto.cells ∙ c.deref_mut.ensures.len))
      ∙ cells_copied c.self.inside.width c.self.inside.height c.from.inside.width c.from.inside.height c.self.inside.format c.from.inside.format c.args.rect c.args.to c.from.inside.cells.items c.self.inside.cells.items c.copy_rect.new.cells
      (subst (λ p. IsTrue (lies_in p.width p.height c.args.rect)) (sym c.from.view_is) c.requires.inside)
      (where_told c.self.inside.width c.self.inside.height (holds (moved c.args.rect c.args.to)) _ (λ x y. shade c.self.inside.format (taken_from c.from.inside.width c.from.inside.cells.items c.args.rect c.args.to x y)) c.self.inside.cells.items c.copy_rect.new.cells
      (where_of c.grid-grid.result.width c.self.inside.width c.grid-grid.result.height c.self.inside.height (holds (moved c.args.rect c.args.to))
      (λ _ _ x y. shade c.self.inside.format (taken_from c.grid-from_grid.result.width c.deref.result.now c.args.rect c.args.to x y)) c.deref_mut.result.now c.self.inside.cells.items c.copy_rect.new.cells
      (c.grid-grid.ensures.width ∙ sym (ap (λ p. p.width) c.self.view_is)) (c.grid-grid.ensures.height ∙ sym (ap (λ p. p.height) c.self.view_is)) c.deref_mut.ensures.value c.copy_rect.ensures)
      (λ x y _ i. shade c.self.inside.format (taken_from ((c.grid-from_grid.ensures.width ∙ sym (ap (λ p. p.width) c.from.view_is)) i) (c.deref.ensures.value i) c.args.rect c.args.to x y)))))
      (copied_is_picture (of_cells c.from.inside.width c.from.inside.height c.from.inside.format c.from.inside.cells.items) c.args.rect c.args.to (of_cells c.self.inside.width c.self.inside.height c.self.inside.format c.self.inside.cells.items) c.self.invariant.shape);
  full =
      ap length (with_items_is c.self.inside.cells c.copy_rect.new.cells (c.copy_rect.auto.cells ∙ c.deref_mut.ensures.len))
      ∙ c.copy_rect.auto.cells ∙ ap length c.deref_mut.ensures.value ∙ c.self.invariant.full;
}

pub returns : goal.returns
returns c =
    ap (λ (cells : List Pixel). of_cells c.self.inside.width c.self.inside.height c.self.inside.format cells) (with_items_is c.self.inside.cells c.copy_rect.new.cells (c.copy_rect.auto.cells ∙ c.deref_mut.ensures.len))
    ∙ cells_copied c.self.inside.width c.self.inside.height c.from.inside.width c.from.inside.height c.self.inside.format c.from.inside.format c.args.rect c.args.to c.from.inside.cells.items c.self.inside.cells.items c.copy_rect.new.cells
    (subst (λ p. IsTrue (lies_in p.width p.height c.args.rect)) (sym c.from.view_is) c.requires.inside)
    (where_told c.self.inside.width c.self.inside.height (holds (moved c.args.rect c.args.to)) _ (λ x y. shade c.self.inside.format (taken_from c.from.inside.width c.from.inside.cells.items c.args.rect c.args.to x y)) c.self.inside.cells.items c.copy_rect.new.cells
    (where_of c.grid-grid.result.width c.self.inside.width c.grid-grid.result.height c.self.inside.height (holds (moved c.args.rect c.args.to))
    (λ _ _ x y. shade c.self.inside.format (taken_from c.grid-from_grid.result.width c.deref.result.now c.args.rect c.args.to x y)) c.deref_mut.result.now c.self.inside.cells.items c.copy_rect.new.cells
    (c.grid-grid.ensures.width ∙ sym (ap (λ p. p.width) c.self.view_is)) (c.grid-grid.ensures.height ∙ sym (ap (λ p. p.height) c.self.view_is)) c.deref_mut.ensures.value c.copy_rect.ensures)
    (λ x y _ i. shade c.self.inside.format (taken_from ((c.grid-from_grid.ensures.width ∙ sym (ap (λ p. p.width) c.from.view_is)) i) (c.deref.ensures.value i) c.args.rect c.args.to x y)))
    ∙ (λ i. copied (c.from.view_is i) c.args.rect c.args.to (c.self.view_is i))
