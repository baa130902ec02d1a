use Rattle.std.proofs.Common.{◌≡◌, ◌<◌, ◌≤◌, true, get_or, None, suc, nat_lt, cond}
use Rattle.gfx_clear_store.specs.Rings.{stands}
use Rattle.gfx_clear_store.specs.Index.{rank}
use Rattle.gfx_clear_store.proofs.Walks.{Left}
use Rattle.gfx_clear_store.proofs.finding.follow.Given as goal

abbrev pub invariant-chain : goal.invariant-chain
invariant-chain g l = record {
  most : l.least ≤ l.count;
  held : l.least < l.count → stands l.pixels (get_or l.slots l.least None) ≡ true;
  left : Left l.count l.cursor l.slots l.pixels l.least l.place;
}

-- one more than the order of the place, or nothing where the links end
abbrev pub decreases-chain : goal.decreases-chain
decreases-chain g l = cond (nat_lt l.place l.count) (suc (rank l.count l.cursor l.place)) 0
