use Rattle.std.proofs.Common.{◌+◌, ◌*◌, sym, ap, ◌∙◌}
use Rattle.gfx_base.specs.Colour.{colours_of}
use Rattle.gfx_chooser.specs.Facts.{colours_in}
use Rattle.gfx_clear.specs.State.{fresh}
use Rattle.gfx_estimate.proofs.Streams.{palette_plain, palette_some}
use Rattle.gfx_estimate.proofs.sizes.palette_size.Goals as goal

pub returns-then-are_palette : goal.returns-then-are_palette
returns-then-are_palette c =
    ap (λ n. 28 + 3 * n + c.args.segments) c.from.ensures
    ∙ palette_some fresh c.args.picture.now c.count_colours-colours.result c.args.segments c.count_colours-colours.ensures (sym c.are_palette.ensures ∙ c.if-are_palette.true)
    (c.requires.segments (colours_of (colours_in c.args.picture.now)))

pub returns-else-are_palette : goal.returns-else-are_palette
returns-else-are_palette c =
    c.plain_size.ensures
    ∙ palette_plain fresh c.args.picture.now c.count_colours-colours.result c.count_colours-colours.ensures (sym c.are_palette.ensures ∙ c.if-are_palette.false)
