use Rattle.std.proofs.Common.{◌≡◌, ◌+◌, ◌∙◌, refl}
use Rattle.gfx_dwt.specs.Place.{high_size, line_size, low_size}
use Rattle.gfx_dwt.proofs.Smooth.{level_smooth}
use Rattle.gfx_dwt.proofs.narrow.levels.join_smooth.Goals as goal

pub returns-clause-joined : goal.returns-clause-joined
returns-clause-joined c = λ _ plane none y x p q.
    let t = c.args.transform in
    let l = c.args.level in
    let e : c.low_size-low_size.result ≡ low_size t l = c.low_size-low_size.ensures in
    let f : c.high_size.result ≡ high_size t l = c.high_size.ensures in
    let w = c.low_size-low_size.result + c.high_size.result in
    let whole : w ≡ line_size t l = rw (e, f) refl in
    rw whole at (c.smooth_columns.ensures y x (rw whole p) (rw whole q))
    ∙ level_smooth t l plane _ _ none (λ r k h d. c.smooth_rows.ensures.each r k (rw e h) d) y x p q
