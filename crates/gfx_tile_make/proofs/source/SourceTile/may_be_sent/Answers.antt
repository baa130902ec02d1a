use Rattle.std.proofs.Common.{subst}
use Rattle.gfx_tile_make.specs.Levels.{MayBeSent}
use Rattle.gfx_tile_make.proofs.source.SourceTile.may_be_sent.Goals as goal

pub returns : goal.returns
returns c = subst MayBeSent c.self.view_is c.self.invariant
