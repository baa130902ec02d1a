use Rattle.std.proofs.Common.{◌≡◌, ◌+◌, ◌*◌, ◌<◌, ap, ◌∙◌, arith}
use Rattle.gfx_base.specs.Colour.{colour_of}
use Rattle.gfx_chooser.specs.Facts.{colours_in}
use Rattle.gfx_clear_bands.specs.Writing.{band_elements, column}
use Rattle.gfx_estimate.proofs.Meeting.{columns_start, columns_next, columns_done, background_is}
use Rattle.gfx_estimate.proofs.columns.Columns.meet_band.Goals as goal

pub columns-init : goal.columns-init
columns-init c = record { within = omega arith; meets = columns_start c.args.picture.now c.args.top c.args.rows c.args.self.now }

pub columns-preserved : goal.columns-preserved
columns-preserved c =
    let some : 0 < c.args.picture.now.width = omega (arith, c.columns-test.true) in
    let row : c.args.top < c.args.picture.now.height = omega (arith, c.requires.bottom, c.requires.some) in
    let is : c.as_slice.result.now ≡ column c.args.picture.now.width (colours_in c.args.picture.now) (c.args.top * c.args.picture.now.width + c.columns.x) c.args.rows =
    c.as_slice.ensures.value ∙ c.column_at-column.ensures.column in
    record {
      within = omega (arith, c.columns.invariant.within, c.meet.ensures.within);
      meets = columns_next c.args.picture.now c.args.top c.args.rows c.columns.x (band_elements c.args.picture.now.width (colours_in c.args.picture.now) c.args.top c.args.rows)
          c.colour-background.result c.as_slice.result.now c.args.self.now c.columns.self c.meet.new.self c.columns-test.true
          (background_is c.args.picture.now c.args.top c.colour-background.result some row (c.colour-background.ensures ∙ ap colour_of c.pixel.ensures)) is
          c.meet.ensures.column c.columns.invariant.meets;
    }

pub returns-clause-band : goal.returns-clause-band
returns-clause-band c =
    columns_done c.args.picture.now c.args.top c.args.rows c.columns.x (band_elements c.args.picture.now.width (colours_in c.args.picture.now) c.args.top c.args.rows)
    c.args.self.now c.columns.self c.columns-test.false c.columns.invariant.meets
