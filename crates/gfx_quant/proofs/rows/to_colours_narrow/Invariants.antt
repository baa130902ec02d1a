use Rattle.std.proofs.Common.{◌≡◌, ℕ, ◌*◌, ◌<◌, Some, length}
use Rattle.std.specs.Prelude.{slice_get}
use Rattle.gfx_dwt.specs.Ranges.{at}
use Rattle.gfx_quant.specs.Colour.{colour_of}
use Rattle.gfx_quant.proofs.rows.to_colours_narrow.Given as goal

abbrev pub invariant-loop-number : goal.invariant-loop-number
invariant-loop-number l = (length l.out ≡ 4096) × ((k : ℕ) → k < 64 * l.number → slice_get l.out k ≡ Some (colour_of (at l.y k) (at l.cb k) (at l.cr k)))
