use Rattle.std.proofs.Common.{length}
use Rattle.gfx_clear_store.specs.Rings.{Rings}
use Rattle.gfx_clear_bands.specs.Canvas.{on_canvas}
use Rattle.gfx_clear.specs.Subcodecs.{subcodecs}
use Rattle.gfx_clear.proofs.Areas.{Due}
use Rattle.gfx_clear.proofs.subcodecs.draw_subcodecs.Given as goal

abbrev pub invariant-subcodecs : goal.invariant-subcodecs
invariant-subcodecs l =
    (held : Rings) → Due l.width l.height (on_canvas l.canvas held) l.rest (subcodecs l.width l.height (on_canvas l.fn.canvas held) l.fn.bytes)

abbrev pub decreases-subcodecs : goal.decreases-subcodecs
decreases-subcodecs l = length l.rest
