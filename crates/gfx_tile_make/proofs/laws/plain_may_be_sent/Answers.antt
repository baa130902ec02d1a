use Rattle.gfx_tile_make.proofs.Sources.{plain-may}
use Rattle.gfx_tile_make.proofs.laws.plain_may_be_sent.Goals as goal

pub returns : goal.returns
returns c setting pixels ok ten = plain-may setting pixels ok ten
