use Rattle.std.proofs.Common.{◌≡◌, ◌<◌, ◌+◌, ◌-◌, ◌*◌, length, sym, ap, ◌∙◌, subst, arith}
use Rattle.gfx_clear_bands.proofs.Drawings.{down_within}
use Rattle.gfx_clear_bands.proofs.reading.read_column.Goals as goal

pub draw_down-requires-clause-within : goal.draw_down-requires-clause-within
draw_down-requires-clause-within c = λ k row.
    let band = c.args.band.now in
    let tall : length c.as_slice.result.now ≡ band.bottom - band.top + 1 = ap length c.as_slice.ensures.value ∙ c.in-Ok.ensures.height in
    let low : k < band.bottom - band.top + 1 = omega (arith, tall) in
    let inside = down_within band.top band.bottom c.args.width c.args.x k (length c.args.out.now) low c.requires.rows c.requires.x c.requires.out in
    subst (λ z. z < length c.args.out.now) (λ i. sym c.from.ensures i * sym c.from-2.ensures i + sym c.from-3.ensures i + sym c.from-4.ensures i * k) inside
