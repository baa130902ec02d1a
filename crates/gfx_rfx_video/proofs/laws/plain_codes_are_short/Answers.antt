use Rattle.gfx_rlgr.specs.declared.mode.Mode.TheVariants.{Rlgr3}
use Rattle.gfx_rlgr.proofs.PairBound.{short-bytes}
use Rattle.gfx_rfx_video.proofs.Small.{plain-small}
use Rattle.gfx_rfx_video.proofs.laws.plain_codes_are_short.Goals as goal

pub returns : goal.returns
returns c values bytes count low high written = short-bytes Rlgr3 values bytes count (plain-small values low high) written
