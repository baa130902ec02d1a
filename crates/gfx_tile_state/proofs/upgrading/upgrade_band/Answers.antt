use Rattle.std.proofs.Common.{◌∙◌, ◌+◌, ◌-◌, subst, sym, arith}
use Rattle.gfx_tile_state.specs.Entries.{Upgraded}
use Rattle.gfx_tile_state.proofs.Passing.{passed-over, and-true}
use Rattle.gfx_tile_state.proofs.upgrading.upgrade_band.Goals as goal

pub returns-then-n-eq0-clause-upgraded : goal.returns-then-n-eq0-clause-upgraded
returns-then-n-eq0-clause-upgraded c pass fits alike u =
    subst (λ b. Upgraded pass c.args.to c.args.plane.now b c.args.readers.now) (sym (and-true fits))
    (subst (λ k. Upgraded pass k c.args.plane.now fits c.args.readers.now) {x = c.args.from + (c.args.to - c.args.from)} {y = c.args.to} (omega arith)
    (passed-over (c.args.to - c.args.from) pass c.args.from c.args.plane.now fits c.args.readers.now (λ k h. c.requires.coefficients k (omega arith)) (omega arith)
    (λ k a b. alike.falls k a (omega arith) ∙ c.if-n-eq0.true) u))
