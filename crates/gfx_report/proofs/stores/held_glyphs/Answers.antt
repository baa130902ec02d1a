use Rattle.std.proofs.Common.{[]}
use Rattle.gfx_report.proofs.stores.held_glyphs.Goals as goal

pub returns : goal.returns
returns c = record {
  count = c.add_glyphs-count.ensures.held;
  digest = c.finalize-digest.ensures _ (c.add_glyphs-count.ensures.took [] c.new-hasher.ensures);
}
