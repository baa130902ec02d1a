use Rattle.std.proofs.Common.{◌≡◌, ◌+◌, ◌-◌, ◌*◌, take, drop, sym, ap, ◌∙◌, arith}
use Rattle.gfx_clear_bands.specs.Canvas.{on_canvas}
use Rattle.gfx_clear.specs.Subcodecs.{rows_drawn}
use Rattle.gfx_clear.proofs.Rows.{rows_step, rows_end}
use Rattle.gfx_clear.proofs.Canvases.{row_on_canvas}
use Rattle.gfx_clear.proofs.subcodecs.draw_area.Goals as goal

pub rows-preserved : goal.rows-preserved
rows-preserved c =
    let area = c.args.area.now in
    let one : area.height - c.rows.counter ≡ (area.height - (c.rows.counter + 1)) + 1 = omega arith in
    let product = ap (λ z. c.from-width.result * z) one in
    record {
      at = omega (arith, c.rows.invariant.at, c.from-across.ensures);
      long = omega (arith, c.split_at.ensures.back_len, c.rows.invariant.long, product);
      same = λ held.
          ap (λ z. rows_drawn c.args.across area.width (c.rows.at + z) (area.height - (c.rows.counter + 1)) c.split_at.result.1.now (on_canvas c.draw_row.new.canvas held)) c.from-across.ensures
          ∙ rows_step c.args.across area.width c.rows.at area.height c.rows.counter c.rows.rest.now c.split_at.result.0.now c.split_at.result.1.now
          (on_canvas c.rows.canvas held) (on_canvas c.draw_row.new.canvas held) c.rows-test.true
          (c.split_at.ensures.front ∙ ap (λ z. take z c.rows.rest.now) c.from-width.ensures) (c.split_at.ensures.back ∙ ap (λ z. drop z c.rows.rest.now) c.from-width.ensures)
          (row_on_canvas c.rows.at c.split_at.result.0.now c.rows.canvas c.draw_row.new.canvas held c.draw_row.ensures)
          ∙ c.rows.invariant.same held;
    }

pub returns : goal.returns
returns c = λ held.
    sym (rows_end c.args.across c.args.area.now.width c.rows.at c.args.area.now.height c.rows.counter c.rows.rest.now (on_canvas c.rows.canvas held) c.rows-test.false)
    ∙ c.rows.invariant.same held
