use Rattle.gfx_laws.proofs.Living.{tiles-go-on}
use Rattle.gfx_laws.proofs.wanted.live_tiles_go_on.Goals as goal

pub returns : goal.returns
returns c = tiles-go-on
