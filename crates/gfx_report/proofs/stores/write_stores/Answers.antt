use Rattle.gfx_base.proofs.Streams.{FailsAfter-append, FailsAfter_more}
use Rattle.gfx_report.specs.Audit.{decoder_text}
use Rattle.gfx_report.proofs.Writing.{Writes-append, Writes_failed}
use Rattle.gfx_report.proofs.stores.write_stores.Goals as goal

pub returns-in_err-write_all : goal.returns-in_err-write_all
unfolding decoder_text
returns-in_err-write_all g c =
    let fails = rw (c.as_slice.ensures, c.bars_line.ensures) at c.in_err-write_all.ensures in
    Writes_failed c.from_residual.result _ _ c.from_residual.ensures.0 (FailsAfter_more _ _ _ fails)

pub returns-in_err-write_all-2 : goal.returns-in_err-write_all-2
unfolding decoder_text
returns-in_err-write_all-2 g c =
    let gains = rw (c.as_slice.ensures, c.bars_line.ensures) at c.in_ok-write_all.ensures in
    let fails = rw (c.as_slice-2.ensures, c.shorts_line.ensures) at c.in_err-write_all-2.ensures in
    Writes_failed c.from_residual-in_err-write_all-2.result _ _ c.from_residual-in_err-write_all-2.ensures.0
    (FailsAfter-append _ _ _ _ _ _ _ _ gains (FailsAfter_more _ _ _ fails))

pub returns : goal.returns
unfolding decoder_text
returns g c =
    let bars = rw (c.as_slice.ensures, c.bars_line.ensures) at c.in_ok-write_all.ensures in
    let shorts = rw (c.as_slice-2.ensures, c.shorts_line.ensures) at c.in_ok-write_all-2.ensures in
    let glyphs = rw (c.as_slice-3.ensures, c.glyphs_line.ensures, c.glyphs.ensures) at c.write_all-3.ensures in
    Writes-append c.write_all-3.result _ _ _ _ _ _ _ _ bars (Writes-append c.write_all-3.result _ _ _ _ _ _ _ _ shorts glyphs)
