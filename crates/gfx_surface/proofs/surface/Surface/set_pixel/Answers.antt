use Rattle.std.proofs.Common.{◌∙◌, ◌<◌, ap, sym, subst, arith}
use Rattle.std.proofs.lemmas.List.{length-set}
use Rattle.gfx_surface.specs.Picture.{IsPicture}
use Rattle.gfx_surface.specs.Views.{with_pixel}
use Rattle.gfx_surface.proofs.CellPlaces.{place_below}
use Rattle.gfx_surface.proofs.PictureLemmas.{of_cells}
use Rattle.gfx_surface.proofs.ViewLemmas.{cells_dotted, pixel_is_picture}
use Rattle.gfx_surface.proofs.surface.Surface.set_pixel.Goals as goal

pub index_mut-requires : goal.index_mut-requires
index_mut-requires c =
    let column = subst (λ p. c.args.x < p.width) (sym c.self.view_is) c.requires.column in
    let row = subst (λ p. c.args.y < p.height) (sym c.self.view_is) c.requires.row in
    let below = place_below c.self.inside.width c.self.inside.height c.args.x c.args.y column row in
    omega (arith, below, c.place_of-place.ensures, c.self.invariant.full, c.self.inside.cells.ok.0)

pub invariant_of-self : goal.invariant_of-self
invariant_of-self c =
    let column = subst (λ p. c.args.x < p.width) (sym c.self.view_is) c.requires.column in
    let row = subst (λ p. c.args.y < p.height) (sym c.self.view_is) c.requires.row in
    record {
      shape =
          subst IsPicture (sym (cells_dotted c.self.inside.width c.self.inside.height c.args.x c.args.y c.place_of-place.result c.self.inside.format c.args.pixel c.shaded.result
          c.self.inside.cells.items c.self.invariant.full column row c.place_of-place.ensures c.shaded.ensures))
          (pixel_is_picture (of_cells c.self.inside.width c.self.inside.height c.self.inside.format c.self.inside.cells.items) c.args.x c.args.y c.args.pixel c.self.invariant.shape);
      full = length-set c.self.inside.cells.items c.place_of-place.result c.shaded.result ∙ c.self.invariant.full;
    }

pub returns : goal.returns
returns c =
    let column = subst (λ p. c.args.x < p.width) (sym c.self.view_is) c.requires.column in
    let row = subst (λ p. c.args.y < p.height) (sym c.self.view_is) c.requires.row in
    cells_dotted c.self.inside.width c.self.inside.height c.args.x c.args.y c.place_of-place.result c.self.inside.format c.args.pixel c.shaded.result
    c.self.inside.cells.items c.self.invariant.full column row c.place_of-place.ensures c.shaded.ensures
    ∙ ap (λ p. with_pixel p c.args.x c.args.y c.args.pixel) c.self.view_is
