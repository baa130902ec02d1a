use Rattle.std.proofs.Common.{◌≤◌, length}
use Rattle.std.specs.FinMap.{entries}
use Rattle.gfx_base.proofs.MapLemmas.{from_key}
use Rattle.gfx_report.proofs.Counts.{KeysCounted}
use Rattle.gfx_report.proofs.slots.count_filled.Given as goal

-- the slots before this one are counted
abbrev pub invariant-slots : goal.invariant-slots
invariant-slots l = record {
  few : l.count ≤ l.from;
  counted : KeysCounted l.fn.cache.slots l.count l.from;
}

abbrev pub decreases-slots : goal.decreases-slots
decreases-slots l = length (from_key l.from (entries l.fn.cache.slots))
