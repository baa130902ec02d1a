use Rattle.std.specs.Prelude.{MatchBool}
use Rattle.gfx_tile_state.proofs.Bands.{front}
use Rattle.gfx_tile_make.specs.Fitting.{PlaneFits, PlaneLeaves}
use Rattle.gfx_tile_make.proofs.fitting.plane_fits.Given as goal

abbrev pub invariant-loop-index : goal.invariant-loop-index
invariant-loop-index l =
    MatchBool l.fits (PlaneFits l.transform l.base l.level l.kept l.values (front l.transform l.index)) (PlaneLeaves l.transform l.base l.level l.kept l.values (front l.transform l.index))
