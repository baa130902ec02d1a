use Rattle.std.proofs.Common.{◌-◌}
use Rattle.gfx_bits.specs.Bits.{bits_of}
use Rattle.gfx_rlgr.proofs.Filling.{Fills}
use Rattle.gfx_rlgr.proofs.decoder.fill.Given as goal

abbrev pub invariant-tokens : goal.invariant-tokens
invariant-tokens l = Fills l.mode 4096 (bits_of l.bytes) l.bits l.params l.at l.out l.most

abbrev pub decreases-tokens : goal.decreases-tokens
decreases-tokens l = 4096 - l.at
