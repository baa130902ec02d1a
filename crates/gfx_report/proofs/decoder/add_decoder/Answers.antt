use Rattle.gfx_report.specs.StateBytes.{clear_bytes}
use Rattle.gfx_report.proofs.TookLemmas.{Took-append}
use Rattle.gfx_report.proofs.decoder.add_decoder.Goals as goal

pub returns : goal.returns
unfolding clear_bytes
returns c =
    let bars = rw c.store.ensures at c.add_bars.ensures.took in
    let shorts = rw c.store-2.ensures at c.add_shorts.ensures.took in
    let glyphs = rw c.glyphs.ensures at c.add_glyphs.ensures.took in
    let first = rw (c.to_le_bytes.ensures, c.cursors-bars.ensures.bars) at c.update.ensures in
    let second = rw (c.to_le_bytes-2.ensures, c.cursors-bars.ensures.shorts) at c.update-2.ensures in
    Took-append _ _ _ _ _ bars (Took-append _ _ _ _ _ shorts (Took-append _ _ _ _ _ glyphs (Took-append _ _ _ _ _ first second)))
