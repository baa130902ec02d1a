use Rattle.std.proofs.Common.{◌*◌, ◌++◌, ◌∷◌, [], map, sym, ap, ◌∙◌, arith}
use Rattle.std.proofs.lemmas.List.{take_more_set, map-append}
use Rattle.gfx_clear_bands.proofs.Making.{colours-more, colours-none}
use Rattle.gfx_clear_bands.specs.Bars.{colour_at, colours}
use Rattle.gfx_base.specs.Colour.{opaque}
use Rattle.gfx_clear.proofs.whole.paint_colours.Goals as goal

pub pixels-init : goal.pixels-init
pixels-init c = ap (map opaque) (sym (colours-none c.args.bytes.now))

pub pixels-preserved : goal.pixels-preserved
pixels-preserved c =
    take_more_set c.pixels.out c.pixels.i c.opaque.result (omega arith)
    ∙ (λ k. c.pixels.invariant k ++ (c.opaque.ensures ∙ ap opaque c.colour_at.ensures) k ∷ [])
    ∙ sym (map-append opaque (colours c.pixels.i c.args.bytes.now) (colour_at c.args.bytes.now (3 * c.pixels.i) ∷ []))
    ∙ ap (map opaque) (sym (colours-more c.pixels.i c.args.bytes.now))
