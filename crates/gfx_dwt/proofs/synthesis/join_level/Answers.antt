use Rattle.std.proofs.Common.{◌≡◌, ◌+◌, ◌*◌, ◌∙◌, arith}
use Rattle.gfx_dwt.specs.Place.{high_size, low_size}
use Rattle.gfx_dwt.specs.Samples.{part_joined, level_joined}
use Rattle.gfx_dwt.proofs.Planes.{cells_within, part_joined_within}
use Rattle.gfx_dwt.proofs.Same.{joined_same}
use Rattle.gfx_dwt.proofs.synthesis.join_level.Goals as goal

pub returns-clause-each : goal.returns-clause-each
unfolding part_joined level_joined
returns-clause-each c = λ y x p q.
    let t = c.args.transform in
    let l = c.args.level in
    let e : c.low_size.result + c.high_size.result ≡ low_size t l + high_size t l = omega arith in
    rw e at (c.join_columns.ensures y x (rw e p) (rw e q))
    ∙ joined_same t l _ _ _ _ (λ r h. c.join_quarters.ensures.above r x h q) (λ r h. c.join_quarters.ensures.below r x h q) y p

pub returns-clause-within : goal.returns-clause-within
returns-clause-within c = λ bound all.
    let t = c.args.transform in
    let l = c.args.level in
    cells_within (low_size t l + high_size t l) (low_size t l + high_size t l) (16 * bound) _ (omega arith)
    (λ y x p q. rw (returns-clause-each c y x p q) (part_joined_within t l bound c.args.part.now all y x p q))
