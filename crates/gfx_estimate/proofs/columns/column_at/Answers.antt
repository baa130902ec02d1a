use Rattle.std.proofs.Common.{◌≡◌, ◌+◌, ◌-◌, ◌*◌, ◌<◌, [], ◌∷◌, ◌++◌, get_or, ap, ◌∙◌, arith}
use Rattle.gfx_base.specs.Colour.{colour_of}
use Rattle.gfx_chooser.specs.Facts.{colours_in}
use Rattle.gfx_clear_bands.proofs.Shorts.{column_step, column_none}
use Rattle.gfx_clear_bands.specs.Writing.{black, column}
use Rattle.gfx_estimate.proofs.Meeting.{pixel_is}
use Rattle.gfx_estimate.proofs.columns.column_at.Goals as goal

pub rows-preserved : goal.rows-preserved
rows-preserved c =
    let width = c.args.picture.now.width in
    let pixels = colours_in c.args.picture.now in
    let at = c.args.top * c.args.picture.now.width + c.args.x + c.args.picture.now.width * c.rows.row in
    let next : c.args.top * c.args.picture.now.width + c.args.x + c.args.picture.now.width * (c.rows.row + 1)
    ≡ c.args.top * c.args.picture.now.width + c.args.x + c.args.picture.now.width * c.rows.row + c.args.picture.now.width = omega arith in
    let below : c.args.top + c.rows.row < c.args.picture.now.height = omega (arith, c.rows-test.true, c.requires.bottom) in
    let pixel = pixel_is c.args.picture.now c.args.x c.args.top c.rows.row c.colour.result c.requires.across below (c.colour.ensures ∙ ap colour_of c.pixel.ensures) in
    record {
      len = c.push.ensures.len ∙ ap (λ n. n + 1) c.rows.invariant.len;
      same = ap (λ z. z ++ column width pixels (c.args.top * c.args.picture.now.width + c.args.x + c.args.picture.now.width * (c.rows.row + 1)) (c.args.rows - (c.rows.row + 1)))
          (c.push.ensures.items ∙ ap (λ z. c.rows.found.items ++ z ∷ []) pixel)
          ∙ ap (λ k. (c.rows.found.items ++ get_or pixels at black ∷ []) ++ column width pixels k (c.args.rows - (c.rows.row + 1))) next
          ∙ column_step width pixels at c.args.rows c.rows.row c.rows.found.items _ c.rows-test.true c.rows.invariant.same;
    }

pub returns-clause-column : goal.returns-clause-column
returns-clause-column c =
    column_none c.args.picture.now.width (colours_in c.args.picture.now) (c.args.top * c.args.picture.now.width + c.args.x + c.args.picture.now.width * c.rows.row)
    c.args.rows c.rows.row c.rows.found.items c.rows-test.false ∙ c.rows.invariant.same
