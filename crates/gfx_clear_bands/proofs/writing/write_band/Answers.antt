use Rattle.std.proofs.Common.{◌≡◌, ◌*◌, refl, ap, ◌∙◌}
use Rattle.gfx_clear_bands.specs.Writing.{band_elements, output}
use Rattle.gfx_clear_bands.proofs.Outputs.{on_ok, on_err, band_begun, band_done, band_cut, nothing_written}
use Rattle.gfx_clear_bands.proofs.writing.write_band.Goals as goal

pub returns-in-Ok-clause-ok : goal.returns-in-Ok-clause-ok
returns-in-Ok-clause-ok c =
    let old = output c.args.store.now c.args.out.now in
    let mid = output c.args.store.now c.append.new.self in
    let at : c.from.result * c.from-2.result ≡ c.args.top * c.args.width = λ i. c.from.ensures i * c.from-2.ensures i in
    let begun = band_begun c.args.width c.args.pixels.now c.args.top c.args.rows (c.from.result * c.from-2.result) old mid c.as_slice.result.now at (c.as_slice.ensures.value ∙ c.head_bytes.ensures) c.in-Ok.ensures.ok refl in
    on_ok c.write_columns.result (band_done c.args.width c.args.pixels.now c.args.top c.args.rows (c.from.result * c.from-2.result) old mid (output c.write_columns.new.store c.write_columns.new.out) at begun) c.write_columns.ensures.ok

pub returns-in-Ok-clause-err : goal.returns-in-Ok-clause-err
returns-in-Ok-clause-err c =
    let old = output c.args.store.now c.args.out.now in
    let mid = output c.args.store.now c.append.new.self in
    let at : c.from.result * c.from-2.result ≡ c.args.top * c.args.width = λ i. c.from.ensures i * c.from-2.ensures i in
    let begun = band_begun c.args.width c.args.pixels.now c.args.top c.args.rows (c.from.result * c.from-2.result) old mid c.as_slice.result.now at (c.as_slice.ensures.value ∙ c.head_bytes.ensures) c.in-Ok.ensures.ok refl in
    on_err c.write_columns.result (band_cut c.args.width c.args.pixels.now c.args.top c.args.rows (c.from.result * c.from-2.result) old mid (output c.write_columns.new.store c.write_columns.new.out) at begun) c.write_columns.ensures.err

pub returns-in-Err-clause-err : goal.returns-in-Err-clause-err
returns-in-Err-clause-err c =
    nothing_written (band_elements c.args.width c.args.pixels.now c.args.top c.args.rows) (output c.args.store.now c.args.out.now) (output c.args.store.now c.append.new.self)
    (ap (output c.args.store.now) c.in-Err.ensures.err)
