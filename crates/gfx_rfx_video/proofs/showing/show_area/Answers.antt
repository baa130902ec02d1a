use Rattle.std.proofs.Common.{◌∙◌, inl, inr, ap}
use Rattle.gfx_surface.specs.Picture.{copied}
use Rattle.gfx_rfx_video.proofs.Parts.{area-drawn, area-missed}
use Rattle.gfx_rfx_video.proofs.Shares.{source}
use Rattle.gfx_rfx_video.proofs.showing.show_area.Goals as goal
use Rattle.gfx_rfx_video.proofs.showing.show_area.Goals.{else-both-via-then-both+else-both-2, else-both-via-else-both}

pub returns-then-both-2 : goal.returns-then-both-2
returns-then-both-2 c =
    c.copy_from.ensures
    ∙ ap (λ to. copied c.args.canvas.now (source c.args.at c.overlap-both.result) to c.args.surface.now) c.corner_of.ensures
    ∙ area-drawn c.args.surface.now c.args.canvas.now c.args.part c.args.area c.overlap-both.result c.args.at c.overlap-both.ensures c.requires.part c.if-both.true c.if-both-2.true

pub returns-else-both : goal.returns-else-both
returns-else-both c =
    area-missed c.args.surface.now c.args.canvas.now c.args.part c.args.area c.overlap-both.result c.args.at c.overlap-both.ensures c.size.ensures.shape
    (elim c.else-both.branch [ else-both-via-then-both+else-both-2 w ↦ inr w.if-both-2.false | else-both-via-else-both w ↦ inl w.if-both.false ])
