use Rattle.std.proofs.Common.{◌∙◌, ◌<◌, ap, sym, subst, get_or, arith}
use Rattle.std.proofs.lemmas.List.{get_or_default}
use Rattle.gfx_surface.specs.Picture.{pixel_at, no_pixel}
use Rattle.gfx_surface.proofs.CellPlaces.{place_below}
use Rattle.gfx_surface.proofs.PictureLemmas.{pixel_at-of_cells}
use Rattle.gfx_surface.proofs.surface.Surface.pixel.Goals as goal

pub index-requires : goal.index-requires
index-requires c =
    let column = subst (λ p. c.args.x < p.width) (sym c.self.view_is) c.requires.column in
    let row = subst (λ p. c.args.y < p.height) (sym c.self.view_is) c.requires.row in
    let below = place_below c.self.inside.width c.self.inside.height c.args.x c.args.y column row in
    omega (arith, below, c.place_of.ensures, c.self.invariant.full, c.self.inside.cells.ok.0)

pub returns : goal.returns
returns c =
    let column = subst (λ p. c.args.x < p.width) (sym c.self.view_is) c.requires.column in
    let row = subst (λ p. c.args.y < p.height) (sym c.self.view_is) c.requires.row in
    let below = place_below c.self.inside.width c.self.inside.height c.args.x c.args.y column row in
    c.index.ensures
    ∙ get_or_default c.self.inside.cells.items c.place_of.result c.index.result.now no_pixel (omega (arith, below, c.place_of.ensures, c.self.invariant.full))
    ∙ ap (λ n. get_or c.self.inside.cells.items n no_pixel) c.place_of.ensures
    ∙ sym (pixel_at-of_cells c.self.inside.width c.self.inside.height c.self.inside.format c.self.inside.cells.items c.args.x c.args.y column row)
    ∙ ap (λ p. pixel_at p c.args.x c.args.y) c.self.view_is
