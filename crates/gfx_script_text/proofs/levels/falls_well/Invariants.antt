use Rattle.std.proofs.Common.{◌≡◌, ◌+◌, ◌&&◌}
use Rattle.std.specs.Prelude.{nat_le, slice_index}
use Rattle.gfx_quant.specs.Setting.{all_below}
use Rattle.gfx_script_text.proofs.levels.falls_well.Given as goal

abbrev pub invariant-bands : goal.invariant-bands
invariant-bands l = l.fine ≡ all_below l.band (λ k. nat_le (slice_index l.next k) (slice_index l.level k) && nat_le (slice_index l.level k) (slice_index l.next k + 6))
