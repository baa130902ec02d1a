use Rattle.std.proofs.Common.{◌≡◌, ◌*◌, arith}
use Rattle.gfx_script.proofs.RowPixels.{row_pixel}
use Rattle.gfx_script.proofs.picture.Picture.from_rows.Goals as goal

pub returns-clause-pixels : goal.returns-clause-pixels
returns-clause-pixels c = λ x y column row.
    let area : c.from.result * c.from-2.result ≡ c.args.width * c.args.height = λ i. c.from.ensures i * c.from-2.ensures i in
    row_pixel c.args.width c.args.height c.args.rows.now c.in_ok-pixels.pixels x y c.in_ok-pixels.ensures (omega (arith, c.if-rows-area.false, area)) column row
