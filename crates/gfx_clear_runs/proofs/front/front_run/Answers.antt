-- The first pixel of another colour ends the run.
use Rattle.std.proofs.Common.{sym, ◌∙◌}
use Rattle.gfx_clear_runs.proofs.Colours.{begins_not}
use Rattle.gfx_clear_runs.proofs.front.front_run.Goals as goal

pub returns-then-not-is_same-clause-ended : goal.returns-then-not-is_same-clause-ended
returns-then-not-is_same-clause-ended c =
    begins_not c.args.colour _ c.args.pixels.now c.loop-i.i c.loop-i-test.true (sym c.is_same.ensures ∙ c.if-not-is_same.true)
