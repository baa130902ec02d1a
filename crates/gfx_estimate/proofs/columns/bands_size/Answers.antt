use Rattle.std.proofs.Common.{sym, subst, arith}
use Rattle.gfx_estimate.specs.Bands.{no_columns}
use Rattle.gfx_estimate.proofs.Meeting.{BandsLeft, bytes_none, bands_start, bands_next, bands_all}
use Rattle.gfx_estimate.proofs.columns.bands_size.Goals as goal

pub bands-init : goal.bands-init
bands-init c = record {
  top = omega arith;
  within = omega (arith, bytes_none c.no_columns-columns.result c.no_columns-columns.ensures);
  left = subst (BandsLeft c.args.picture.now 0 no_columns) (sym c.no_columns-columns.ensures) (bands_start c.args.picture.now no_columns);
}

pub bands-preserved : goal.bands-preserved
bands-preserved c = record {
  top = omega (arith, c.min-rows.ensures, c.bands-test.true);
  within = omega (arith, c.bands.invariant.within, c.meet_band.ensures.within, c.min-rows.ensures, c.bands-test.true);
  left = bands_next c.args.picture.now c.bands.top c.min-rows.result no_columns c.bands.columns c.meet_band.new.self c.bands-test.true
      (omega (arith, c.min-rows.ensures)) c.bands.invariant.left c.meet_band.ensures.band;
}

pub returns : goal.returns
returns c = bands_all c.args.picture.now c.bands.top c.bands.columns c.bands-test.false c.bands.invariant.left
