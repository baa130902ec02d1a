use Rattle.std.proofs.Common.{◌≡◌, ◌<◌, ◌+◌, ◌-◌, ◌*◌, length, sym, ap, ◌∙◌, subst, arith}
use Rattle.gfx_clear_bands.specs.Bands.{drawn_down}
use Rattle.gfx_clear_bands.specs.Canvas.{on_canvas}
use Rattle.gfx_clear_bands.proofs.Drawings.{down_within}
use Rattle.gfx_clear_bands.proofs.painting.paint_column.Goals as goal

pub paint_down-requires-clause-within : goal.paint_down-requires-clause-within
paint_down-requires-clause-within c = λ k row.
    let band = c.args.band.now in
    let low : k < band.bottom - band.top + 1 = omega (arith, row, c.in-Some.ensures.height) in
    let inside = down_within band.top band.bottom c.args.width c.args.x k (length c.args.canvas.now) low c.requires.rows c.requires.x c.requires.canvas in
    subst (λ z. z < length c.args.canvas.now) (λ i. sym c.from.ensures i * sym c.from-across.ensures i + sym c.from-2.ensures i + sym c.from-across.ensures i * k) inside

pub paint_down-requires-2-clause-within : goal.paint_down-requires-2-clause-within
paint_down-requires-2-clause-within c = λ k row.
    let band = c.args.band.now in
    let tall : length c.as_slice.result.now ≡ band.bottom - band.top + 1 = ap length c.as_slice.ensures.value ∙ c.in-Ok.ensures.height in
    let low : k < band.bottom - band.top + 1 = omega (arith, tall) in
    let inside = down_within band.top band.bottom c.args.width c.args.x k (length c.args.canvas.now) low c.requires.rows c.requires.x c.requires.canvas in
    subst (λ z. z < length c.args.canvas.now) (λ i. sym c.from.ensures i * sym c.from-across.ensures i + sym c.from-2.ensures i + sym c.from-across.ensures i * k) inside

pub returns-in-Some-clause-column : goal.returns-in-Some-clause-column
returns-in-Some-clause-column c =
    let held = c.in-Some.held in
    let old = on_canvas c.args.canvas.now c.args.store.now.held in (
      record { pixels = held.pixels.now; rings = c.args.store.now.held; rest = held.rest.now },
      c.in-Some.ensures.bar c.args.band.now.background,
      λ i. ((c.paint_down.ensures c.args.store.now.held ∙ (λ j. drawn_down (c.from-across.ensures j) (c.from.ensures j * c.from-across.ensures j + c.from-2.ensures j) held.pixels.now old)) i, held.rest.now),
    )
