use Rattle.gfx_damage.specs.Drawing.{rects_drawn}
use Rattle.gfx_damage.proofs.OpeningLemmas.{absent, present}
use Rattle.gfx_damage.proofs.drawing.drawing_on.Goals as goal

pub returns-in_default : goal.returns-in_default
returns-in_default c = absent c.args.state.now c.args.surface (rects_drawn c.args.drawn) (rw c.in_default.is at c.sides_of.ensures)

pub returns : goal.returns
returns c = present c.args.state.now c.args.surface (rects_drawn c.args.drawn) c.in-Some.sides (rw c.in-Some.is at c.sides_of.ensures)
