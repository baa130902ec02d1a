use Rattle.std.proofs.Common.{◌+◌, ◌-◌, sym, ap, ◌∙◌, subst}
use Rattle.gfx_clear_bands.specs.Bands.{drawing, columns}
use Rattle.gfx_clear_bands.specs.Inner.{DrawsOn}
use Rattle.gfx_clear_bands.proofs.Drawings.{band_at, band_refused}
use Rattle.gfx_clear_bands.proofs.reading.read_band.Goals as goal

pub returns-in-Err-clause-band : goal.returns-in-Err-clause-band
returns-in-Err-clause-band c = band_refused c.args.width c.args.height _ c.args.bytes.now c.in-Err.refusal (sym c.in-Err.ensures.head)

pub returns-clause-band : goal.returns-clause-band
returns-clause-band c =
    let band = c.in-Ok.band in
    let old = drawing c.args.out.now c.args.drawn.now c.args.store.now.held in
    subst (DrawsOn c.read_columns.result (drawing c.read_columns.new.out c.read_columns.new.drawn c.read_columns.new.store.held))
    (ap (columns c.args.width band (band.right + 1 - band.left) band.left old) c.split_at.ensures.back ∙ sym (band_at c.args.width c.args.height old c.args.bytes.now band (sym c.in-Ok.ensures.head)))
    c.read_columns.ensures.columns
