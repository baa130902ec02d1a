use Rattle.gfx_quant.specs.Setting.{left_out}
use Rattle.gfx_tile_make.specs.Planes.{less}
use Rattle.gfx_tile_make.specs.Fitting.{PlaneFits, PlaneLeaves}
use Rattle.gfx_tile_make.proofs.Places.{one-more}
use Rattle.gfx_tile_make.proofs.fitting.levels_fit.Goals as goal

pub loop-index-preserved : goal.loop-index-preserved
loop-index-preserved c =
    one-more
    (λ i. PlaneFits c.args.transform c.args.base.now (left_out c.args.component c.args.levels.now i) c.args.kept.now (less c.args.own.now c.args.kept.now) 4096)
    (λ i. PlaneLeaves c.args.transform c.args.base.now (left_out c.args.component c.args.levels.now i) c.args.kept.now (less c.args.own.now c.args.kept.now) 4096)
    c.loop-index.index c.loop-index.fits c.plane_fits-fits.result c.loop-index.invariant (rw (c.left_out-level.ensures, c.subtract.ensures.value) at c.plane_fits-fits.ensures)
