use Rattle.std.proofs.Common.{◌-◌, length}
use Rattle.gfx_rlgr.proofs.Encoding.{Writes}
use Rattle.gfx_rlgr.proofs.encoder.write.Given as goal

abbrev pub invariant-tokens : goal.invariant-tokens
invariant-tokens l = Writes l.mode 4096 l.values l.bits l.params l.at

abbrev pub decreases-tokens : goal.decreases-tokens
decreases-tokens l = length l.values - l.at
