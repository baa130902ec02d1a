use Rattle.gfx_prog_decode.proofs.Tiles.{added_to, plain_over}
use Rattle.gfx_prog_decode.proofs.passing.check_old.Goals as goal

pub returns-then-difference : goal.returns-then-difference
returns-then-difference c count = rw c.if-difference.true (added_to c.may_add.result c.args.tile.now c.args.transform c.may_add.ensures count)

pub returns-else-difference : goal.returns-else-difference
returns-else-difference c count = rw c.if-difference.false (plain_over c.args.tile.now c.args.transform count)
