use Rattle.gfx_rfx_video.proofs.Direct.{pixel-direct, tile-direct}
use Rattle.gfx_rfx_video.proofs.laws.tile_codes_are_direct.Goals as goal

pub returns-clause-planes : goal.returns-clause-planes
returns-clause-planes c = tile-direct

pub returns-clause-pixels : goal.returns-clause-pixels
returns-clause-pixels c = pixel-direct
