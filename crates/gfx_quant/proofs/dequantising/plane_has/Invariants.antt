use Rattle.std.specs.Prelude.{MatchBool}
use Rattle.gfx_quant.specs.Planes.{PlaneHas, LeavesRange}
use Rattle.gfx_quant.proofs.dequantising.plane_has.Given as goal

abbrev pub invariant-loop-index : goal.invariant-loop-index
invariant-loop-index l = MatchBool l.fits (PlaneHas l.index l.transform l.positions l.plane) (LeavesRange l.transform l.positions l.plane)
