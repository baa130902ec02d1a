use Rattle.std.proofs.Common.{◌≡◌, ℕ, ◌<◌, false, None, get_or}
use Rattle.gfx_clear_store.specs.Rings.{stands}
use Rattle.gfx_clear_store.proofs.finding.scan.Given as goal

abbrev pub invariant-places : goal.invariant-places
invariant-places g l = (k : ℕ) → k < l.place → stands l.pixels (get_or l.slots k None) ≡ false
