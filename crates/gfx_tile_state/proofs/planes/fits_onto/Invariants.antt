use Rattle.std.proofs.Common.{◌≡◌, ℕ, ◌<◌, ◌+ℤ◌, true, false}
use Rattle.std.specs.Prelude.{MatchBool}
use Rattle.gfx_dwt.specs.Ranges.{at}
use Rattle.gfx_quant.specs.Coefficient.{is_coefficient}
use Rattle.gfx_tile_state.proofs.planes.fits_onto.Given as goal

abbrev pub invariant-loop-place : goal.invariant-loop-place
invariant-loop-place l =
    MatchBool l.fits ((k : ℕ) → k < l.place → is_coefficient (at l.kept k +ℤ at l.plane k) ≡ true)
    ((k : ℕ) × (k < l.place) × (is_coefficient (at l.kept k +ℤ at l.plane k) ≡ false))
