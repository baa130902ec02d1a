use Rattle.std.proofs.Common.{[]}
use Rattle.gfx_report.proofs.stores.held_shorts.Goals as goal

pub returns : goal.returns
returns c =
    let took = rw c.store.ensures at c.add_shorts-count.ensures.took in
    record {
      count = rw c.store.ensures at c.add_shorts-count.ensures.held;
      digest = c.finalize-digest.ensures _ (took [] c.new-hasher.ensures);
    }
