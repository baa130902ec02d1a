use Rattle.std.proofs.Common.{◌≡◌, ◌∙◌, ap, sym, subst, List, length, map}
use Rattle.std.proofs.lemmas.List.{with_items_is}
use Rattle.gfx_base.specs.declared.pixel.Pixel.{Pixel}
use Rattle.gfx_base.specs.Geometry.{holds}
use Rattle.gfx_surface.specs.Picture.{IsPicture, overlaid, shade, in_rect}
use Rattle.gfx_surface.proofs.PictureLemmas.{of_cells, cells_overlaid, overlaid_is_picture}
use Rattle.gfx_surface.proofs.Wheres.{where_of}
use Rattle.gfx_surface.proofs.surface.Surface.put_as.Goals as goal

pub invariant_of-self : goal.invariant_of-self
invariant_of-self c =
    let items = with_items_is c.self.inside.cells c.put_pixels.new.cells (c.put_pixels.auto.cells ∙ c.deref_mut.ensures.len) in
    record {
      shape =
          subst IsPicture (sym (
          ap (λ (cells : List Pixel). of_cells c.self.inside.width c.self.inside.height c.self.inside.format cells) items
          ∙ cells_overlaid c.self.inside.width c.self.inside.height c.self.inside.format c.args.format c.args.rect c.args.pixels.now c.self.inside.cells.items c.put_pixels.new.cells c.requires.whole
          (subst (λ p. map (shade c.args.format) c.args.pixels.now ≡ map (shade p.format) c.args.pixels.now) (sym c.self.view_is) c.requires.alike)
          (where_of c.grid-grid.result.width c.self.inside.width c.grid-grid.result.height c.self.inside.height (holds c.args.rect) (λ _ _ x y. shade c.args.format (in_rect c.args.rect c.args.pixels.now x y)) c.deref_mut.result.now c.self.inside.cells.items c.put_pixels.new.cells
          (c.grid-grid.ensures.width ∙ sym (ap (λ p. p.width) c.self.view_is)) (c.grid-grid.ensures.height ∙ sym (ap (λ p. p.height) c.self.view_is)) c.deref_mut.ensures.value c.put_pixels.ensures)))
          (overlaid_is_picture (of_cells c.self.inside.width c.self.inside.height c.self.inside.format c.self.inside.cells.items) c.args.rect c.args.pixels.now c.self.invariant.shape);
      full = ap length items ∙ c.put_pixels.auto.cells ∙ ap length c.deref_mut.ensures.value ∙ c.self.invariant.full;
    }

pub returns : goal.returns
returns c =
    ap (λ (cells : List Pixel). of_cells c.self.inside.width c.self.inside.height c.self.inside.format cells)
    (with_items_is c.self.inside.cells c.put_pixels.new.cells (c.put_pixels.auto.cells ∙ c.deref_mut.ensures.len))
    ∙ cells_overlaid c.self.inside.width c.self.inside.height c.self.inside.format c.args.format c.args.rect c.args.pixels.now c.self.inside.cells.items c.put_pixels.new.cells c.requires.whole
    (subst (λ p. map (shade c.args.format) c.args.pixels.now ≡ map (shade p.format) c.args.pixels.now) (sym c.self.view_is) c.requires.alike)
    (where_of c.grid-grid.result.width c.self.inside.width c.grid-grid.result.height c.self.inside.height (holds c.args.rect) (λ _ _ x y. shade c.args.format (in_rect c.args.rect c.args.pixels.now x y)) c.deref_mut.result.now c.self.inside.cells.items c.put_pixels.new.cells
    (c.grid-grid.ensures.width ∙ sym (ap (λ p. p.width) c.self.view_is)) (c.grid-grid.ensures.height ∙ sym (ap (λ p. p.height) c.self.view_is)) c.deref_mut.ensures.value c.put_pixels.ensures)
    ∙ ap (λ picture. overlaid picture c.args.rect c.args.pixels.now) c.self.view_is
