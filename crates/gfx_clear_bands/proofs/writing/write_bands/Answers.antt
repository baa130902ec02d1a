use Rattle.std.proofs.Common.{sym, subst, arith}
use Rattle.gfx_clear_bands.specs.Writing.{output}
use Rattle.gfx_clear_bands.proofs.Outputs.{BandsLeft, bands_start, bands_step, bands_part, bands_end}
use Rattle.gfx_clear_bands.proofs.writing.write_bands.Goals as goal

pub bands-init : goal.bands-init
bands-init c = record {
  within = omega arith;
  left = subst (λ z. BandsLeft c.args.width c.args.height c.args.pixels.now 0 (output c.args.store.now c.args.out.now) (output z c.args.out.now)) (sym c.prepare.ensures)
      (bands_start c.args.width c.args.height c.args.pixels.now (output c.args.store.now c.args.out.now));
}

pub bands-preserved : goal.bands-preserved
bands-preserved c = record {
  within = omega (arith, c.min-rows.ensures);
  left = bands_step c.args.width c.args.height c.args.pixels.now c.bands.top c.min-rows.result (output c.args.store.now c.args.out.now) (output c.bands.store c.bands.out)
      (output c.write_band.new.store c.write_band.new.out) c.bands-test.true (omega (arith, c.min-rows.ensures)) c.bands.invariant.left c.in-Ok.ensures.ok;
}

pub returns-in-Err-clause-err : goal.returns-in-Err-clause-err
returns-in-Err-clause-err c =
    bands_part c.args.width c.args.height c.args.pixels.now c.bands.top c.min-rows.result (output c.args.store.now c.args.out.now) (output c.bands.store c.bands.out)
    (output c.write_band.new.store c.write_band.new.out) c.bands-test.true (omega (arith, c.min-rows.ensures)) c.bands.invariant.left c.in-Err.ensures.err

pub returns-clause-ok : goal.returns-clause-ok
returns-clause-ok c =
    bands_end c.args.width c.args.height c.args.pixels.now c.bands.top (output c.args.store.now c.args.out.now) (output c.bands.store c.bands.out) c.bands-test.false c.bands.invariant.left
