use Rattle.gfx_laws.proofs.Unraised.{thin-none}
use Rattle.gfx_laws.proofs.seen.thin_clients_have_no_live_tiles.Goals as goal

pub returns : goal.returns
returns c = thin-none
