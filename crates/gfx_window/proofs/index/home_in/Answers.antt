use Rattle.std.proofs.Common.{arith, sym, ◌∙◌}
use Rattle.gfx_window.proofs.HomeLoops.{fits-here, fits-later, fits-none}
use Rattle.gfx_window.proofs.index.home_in.Goals as goal

pub returns-then-fits-clause-home : goal.returns-then-fits-clause-home
returns-then-fits-clause-home c =
    c.spot.ensures.spot ∙ fits-here c.args.count c.args.hull c.args.sides.now c.sides.side-index _ _ _ _ (omega arith) (sym c.if-fits.true ∙ c.fits.ensures) c.cell.ensures c.cell-then-fits.ensures c.sides.invariant

pub sides-preserved : goal.sides-preserved
sides-preserved c =
    fits-later c.args.count c.args.hull c.args.sides.now c.sides.side-index _ _ (omega arith) (sym c.if-fits.false ∙ c.fits.ensures) c.sides.invariant

pub returns-clause-home : goal.returns-clause-home
returns-clause-home c = fits-none c.args.count c.args.hull c.args.sides.now c.sides.side-index _ (omega arith) c.sides.invariant
