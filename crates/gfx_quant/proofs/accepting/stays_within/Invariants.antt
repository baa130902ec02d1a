use Rattle.std.proofs.Common.{◌≡◌, ◌+◌}
use Rattle.std.specs.Prelude.{nat_le, slice_index}
use Rattle.gfx_quant.specs.Setting.{all_below}
use Rattle.gfx_quant.proofs.accepting.stays_within.Given as goal

abbrev pub invariant-loop-band : goal.invariant-loop-band
invariant-loop-band l = l.fine ≡ all_below l.band (λ k. nat_le (slice_index l.base k + slice_index l.level k) 15)
