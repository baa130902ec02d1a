use Rattle.std.proofs.Common.{◌≡◌, ◌∙◌, ◌+◌, ap, sym, subst, IsTrue, List}
use Rattle.gfx_base.specs.declared.pixel.Pixel.{Pixel}
use Rattle.gfx_base.specs.Geometry.{lies_in, width_of, height_of, sized}
use Rattle.gfx_surface.specs.Picture.{rect_of}
use Rattle.gfx_surface.specs.Cells.{kept_at}
use Rattle.gfx_surface.specs.Rows.{WritesRows}
use Rattle.gfx_surface.proofs.PictureLemmas.{rect_read}
use Rattle.gfx_surface.proofs.surface.Surface.read.Goals as goal

pub returns : goal.returns
returns c =
    let rect = c.args.rect in
    let wide : c.grid.result.width ≡ c.self.inside.width = c.grid.ensures.width ∙ sym (ap (λ p. p.width) c.self.view_is) in
    rect_read c.self.inside.width c.self.inside.height c.self.inside.format rect c.self.inside.cells.items c.args.out.now c.read_rect.new.out
    (subst (λ p. IsTrue (lies_in p.width p.height rect)) (sym c.self.view_is) c.requires.inside) c.requires.whole c.read_rect.auto.out
    (subst (λ w. WritesRows (width_of rect) (sized (width_of rect) (height_of rect)) (λ x y. kept_at w c.self.inside.cells.items (x + rect.left) (y + rect.top)) c.args.out.now c.read_rect.new.out) wide
    (subst (λ (cells : List Pixel). WritesRows (width_of rect) (sized (width_of rect) (height_of rect)) (λ x y. kept_at c.grid.result.width cells (x + rect.left) (y + rect.top)) c.args.out.now c.read_rect.new.out) c.deref.ensures.value c.read_rect.ensures))
    ∙ ap (λ p. rect_of p rect) c.self.view_is
