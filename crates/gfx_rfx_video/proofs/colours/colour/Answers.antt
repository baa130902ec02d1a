use Rattle.gfx_rfx_video.proofs.Pixels.{opaque-pixels}
use Rattle.gfx_rfx_video.proofs.colours.colour.Goals as goal

pub returns-then-not-colour_narrow-clause-opaque : goal.returns-then-not-colour_narrow-clause-opaque
returns-then-not-colour_narrow-clause-opaque c = opaque-pixels c.args.planes.now c.colour_wide.new.out c.colour_wide.array_long c.colour_wide.ensures

pub returns-else-not-colour_narrow-clause-opaque : goal.returns-else-not-colour_narrow-clause-opaque
returns-else-not-colour_narrow-clause-opaque c =
    opaque-pixels c.args.planes.now c.colour_narrow.new.out c.colour_narrow.array_long (c.colour_narrow.ensures c.if-not-colour_narrow.false)
