use Rattle.gfx_tile_make.proofs.ReadBack.{one-data}
use Rattle.gfx_tile_make.proofs.laws.one_pass.Goals as goal

pub returns : goal.returns
returns c source component level srl other raw more p q r s one two = one-data _ _ srl other raw more p q r s one two
