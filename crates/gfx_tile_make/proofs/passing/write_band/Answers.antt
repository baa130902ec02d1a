use Rattle.std.proofs.Common.{◌∙◌, ◌+◌, ◌-◌, subst, arith}
use Rattle.gfx_tile_make.specs.Writing.{HasPassed}
use Rattle.gfx_tile_make.proofs.Places.{passed-over}
use Rattle.gfx_tile_make.proofs.passing.write_band.Goals as goal

pub returns-then-before-behind : goal.returns-then-before-behind
returns-then-before-behind c = λ pass entries band low due before.
    subst (λ k. HasPassed pass entries k c.args.writers.now) {x = c.args.from + (c.args.to - c.args.from)} {y = c.args.to} (omega arith)
    (passed-over (c.args.to - c.args.from) pass entries c.args.from c.args.writers.now (omega (arith, due.all))
    (λ j a b. due.falls j a (omega arith) ∙ omega (arith, c.if-before-behind.true)) before)
