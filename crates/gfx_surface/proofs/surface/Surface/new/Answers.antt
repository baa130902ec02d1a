use Rattle.std.proofs.Common.{rules, ◌≡◌, ◌∙◌, refl, sym, ap, subst, List, length, replicate}
use Rattle.std.proofs.lemmas.List.{length-replicate}
use Rattle.gfx_base.specs.declared.pixel.Pixel.{Pixel}
use Rattle.gfx_surface.specs.Picture.{IsPicture, zero_colour}
use Rattle.gfx_surface.specs.Cells.{places}
use Rattle.gfx_surface.proofs.PictureLemmas.{of_cells, blank_cells, blank_is_picture}
use Rattle.gfx_surface.proofs.surface.Surface.new.Goals as goal

pub invariant_of-result : goal.invariant_of-result
invariant_of-result c =
    let items : c.in_ok-cells.cells.items ≡ replicate (places c.args.width c.args.height) (zero_colour c.args.format) = search rules in
    record {
      shape =
          subst IsPicture (sym (ap (λ (cells : List Pixel). of_cells c.args.width c.args.height c.args.format cells) items
          ∙ blank_cells c.args.width c.args.height (places c.args.width c.args.height) c.args.format refl))
          (blank_is_picture c.args.width c.args.height c.args.format c.requires.width_from c.requires.width_most c.requires.height_from c.requires.height_most);
      full = ap length items ∙ length-replicate (places c.args.width c.args.height) (zero_colour c.args.format);
    }

pub returns : goal.returns
returns c =
    let items : c.in_ok-cells.cells.items ≡ replicate (places c.args.width c.args.height) (zero_colour c.args.format) = search rules in
    ap (λ (cells : List Pixel). of_cells c.args.width c.args.height c.args.format cells) items
    ∙ blank_cells c.args.width c.args.height (places c.args.width c.args.height) c.args.format refl
