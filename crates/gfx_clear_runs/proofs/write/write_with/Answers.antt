-- With no colour there is nothing to write.
use Rattle.std.proofs.Common.{arith, refl, length}
use Rattle.gfx_clear_runs.proofs.Appending.{is_none, is_some}
use Rattle.gfx_clear_runs.proofs.Collecting.{rlex_none, rlex_some}
use Rattle.gfx_clear_runs.proofs.write.write_with.Goals as goal

pub returns-then-is_empty : goal.returns-then-is_empty
returns-then-is_empty c =
    (rlex_none c.args.colours.items c.args.pixels.now (is_none (length c.args.colours.items) c.is_empty.result c.is_empty.ensures c.if-is_empty.true), refl)

pub returns-in-Ok : goal.returns-in-Ok
returns-in-Ok c =
    (_, rlex_some c.args.colours.items c.args.pixels.now (is_some (length c.args.colours.items) c.is_empty.result c.is_empty.ensures c.if-is_empty.false) (omega arith), c.in-Ok.ensures.ok)
