use Rattle.std.proofs.Common.{subst, sym}
use Rattle.gfx_dwt.specs.Ranges.{AllCoefficients}
use Rattle.gfx_tile_state.proofs.part.upgrade_slice.Goals as goal

pub upgrade_sums-requires-clause-coefficients : goal.upgrade_sums-requires-clause-coefficients
upgrade_sums-requires-clause-coefficients c = subst AllCoefficients (sym c.in-Some.ensures.cases.same) c.requires.coefficients
