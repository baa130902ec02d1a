use Rattle.std.proofs.Common.{ap}
use Rattle.std.specs.Option.{option_copied}
use Rattle.gfx_report.proofs.Counts.{seen_some}
use Rattle.gfx_report.proofs.DecoderBytes.{index_taken}
use Rattle.gfx_report.proofs.TookLemmas.{Took-append}
use Rattle.gfx_report.proofs.decoder.add_index.Goals as goal

pub returns-in-Some : goal.returns-in-Some
returns-in-Some c =
    let index = rw c.to_le_bytes.ensures at c.update.ensures in
    let found = ap option_copied c.in-Some.is in
    record {
      took = index_taken _ _ _ _ _ _ c.get.ensures found
          (Took-append _ _ _ _ _ index (Took-append _ _ _ _ _ c.add_sides.ensures (rw c.as_slice.ensures at c.add_colours.ensures)));
      held = seen_some _ _ _ c.get.ensures found;
    }
