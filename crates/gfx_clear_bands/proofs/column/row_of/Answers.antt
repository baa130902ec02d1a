use Rattle.std.proofs.Common.{sym, arith}
use Rattle.gfx_clear_bands.proofs.Shorts.{row_all, row_some, length-short}
use Rattle.gfx_clear_bands.proofs.column.row_of.Goals as goal

pub returns-then-front-pixels-clause-row : goal.returns-then-front-pixels-clause-row
returns-then-front-pixels-clause-row c = sym (row_all c.args.background c.args.pixels.now c.front_of-front.result c.if-front-pixels.true c.front_of-front.ensures.front)

pub returns-then-front-pixels-clause-within : goal.returns-then-front-pixels-clause-within
returns-then-front-pixels-clause-within c =
    let most = length-short c.args.background c.args.pixels.now c.front_of-front.result c.front_of-front.ensures.within c.front_of-front.ensures.front in
    omega arith

pub returns-else-front-pixels-clause-row : goal.returns-else-front-pixels-clause-row
returns-else-front-pixels-clause-row c = sym (row_some c.args.background c.args.pixels.now c.front_of-front.result (omega (arith, c.front_of-front.ensures.within, c.if-front-pixels.false)) c.front_of-front.ensures.front)

pub returns-else-front-pixels-clause-within : goal.returns-else-front-pixels-clause-within
returns-else-front-pixels-clause-within c =
    let most = length-short c.args.background c.args.pixels.now c.front_of-front.result c.front_of-front.ensures.within c.front_of-front.ensures.front in
    omega arith
