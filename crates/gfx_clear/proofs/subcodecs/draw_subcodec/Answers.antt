use Rattle.std.proofs.Common.{◌*◌, length, ap, ◌∙◌}
use Rattle.gfx_clear.proofs.Layers.{length-coded}
use Rattle.gfx_clear.proofs.subcodecs.draw_subcodec.Goals as goal

pub draw_area-requires-clause-whole : goal.draw_area-requires-clause-whole
draw_area-requires-clause-whole c =
    ap length c.as_slice.ensures
    ∙ length-coded c.in-Ok.area.codec (c.from.result * c.from-2.result) c.split_at-2.result.0.now c.in-Ok-decode.pixels c.in-Ok-decode.ensures
    ∙ (λ i. c.from.ensures i * c.from-2.ensures i)
