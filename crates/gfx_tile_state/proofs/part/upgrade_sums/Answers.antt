use Rattle.std.proofs.Common.{arith, refl}
use Rattle.gfx_bits.specs.Bits.{bits_of}
use Rattle.gfx_tile_state.proofs.Parts.{upgrade-begins, leaves-sum, leaves-kept, stays-in, upgraded-whole}
use Rattle.gfx_tile_state.proofs.part.upgrade_sums.Goals as goal

pub returns-then-not-fits-clause-sums : goal.returns-then-not-fits-clause-sums
returns-then-not-fits-clause-sums c =
    let whole =
    c.upgrade_plane-fits.ensures.upgraded c.args.sums.now (bits_of c.args.srl.now) (bits_of c.args.raw.now)
    (upgrade-begins _ c.args.sums.now _ refl c.new.ensures c.new-2.ensures) in
    (refl, leaves-sum _ c.upgrade_plane-fits.new.plane c.args.kept.now c.upgrade_plane-fits.result _ c.if-not-fits.true whole)

pub returns-then-not-fits_onto-clause-sums : goal.returns-then-not-fits_onto-clause-sums
returns-then-not-fits_onto-clause-sums c =
    let whole =
    c.upgrade_plane-fits.ensures.upgraded c.args.sums.now (bits_of c.args.srl.now) (bits_of c.args.raw.now)
    (upgrade-begins _ c.args.sums.now _ refl c.new.ensures c.new-2.ensures) in (
      refl,
      leaves-kept _ c.upgrade_plane-fits.new.plane c.args.kept.now c.upgrade_plane-fits.result _ c.if-not-fits.false
          (rw c.if-not-fits_onto.true at c.fits_onto.ensures)
          whole,
    )

pub returns-clause-sums : goal.returns-clause-sums
returns-clause-sums c =
    let whole =
    c.upgrade_plane-fits.ensures.upgraded c.args.sums.now (bits_of c.args.srl.now) (bits_of c.args.raw.now)
    (upgrade-begins _ c.args.sums.now _ refl c.new.ensures c.new-2.ensures) in
    let plane = c.upgrade_plane-fits.new.plane in
    let done = upgraded-whole _ plane plane c.upgrade_plane-fits.result _ c.if-not-fits.false refl whole in
    let fits = rw c.if-not-fits_onto.false at c.fits_onto.ensures in (
      done.0,
      done.1,
      done.2,
      omega arith,
      stays-in c.args.kept.now plane plane refl (omega arith) fits c.upgrade_plane-fits.ensures.coefficients,
    )
