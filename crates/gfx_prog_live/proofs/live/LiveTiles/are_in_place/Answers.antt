use Rattle.std.proofs.Common.{subst}
use Rattle.gfx_prog_live.specs.Inside.{AreInPlace}
use Rattle.gfx_prog_live.proofs.live.LiveTiles.are_in_place.Goals as goal

pub returns : goal.returns
returns c = subst AreInPlace c.self.view_is c.self.invariant
