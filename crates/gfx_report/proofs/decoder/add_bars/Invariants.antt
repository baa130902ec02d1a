use Rattle.std.proofs.Common.{drop, is_some}
use Rattle.gfx_report.specs.StateBytes.{ring_bytes}
use Rattle.gfx_report.proofs.Counts.{Counted}
use Rattle.gfx_report.proofs.DecoderBytes.{ring_from}
use Rattle.gfx_report.proofs.TookLemmas.{Owes}
use Rattle.gfx_report.proofs.decoder.add_bars.Given as goal

-- the places from here on are still due, and those before are counted
abbrev pub invariant-places : goal.invariant-places
invariant-places l = record {
  owes : Owes l.fn.hasher l.hasher (ring_bytes 0 l.fn.store.held.bars.slots) (ring_from l.fn.store.held.bars.slots l.place);
  counted : Counted is_some l.fn.store.held.bars.slots l.held (drop l.place l.fn.store.held.bars.slots);
}
