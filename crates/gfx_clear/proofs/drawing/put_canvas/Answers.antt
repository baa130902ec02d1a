use Rattle.std.proofs.Common.{sym, ap, ◌∙◌}
use Rattle.gfx_surface.specs.Picture.{overlaid}
use Rattle.gfx_clear.proofs.drawing.put_canvas.Goals as goal

pub returns-then-is_all_drawn : goal.returns-then-is_all_drawn
returns-then-is_all_drawn c =
    c.put.ensures ∙ ap (overlaid c.args.surface.now c.args.rect) (sym (c.is_all_drawn.ensures c.if-is_all_drawn.true c.args.background.now (c.requires.background ∙ sym c.requires.canvas)))
