use Rattle.std.proofs.Common.{◌∙◌, refl}
use Rattle.gfx_dwt.specs.declared.layout.Scale.TheVariants.{First}
use Rattle.gfx_dwt.proofs.Levels.{nested}
use Rattle.gfx_dwt.proofs.NarrowLevels.{level_same, narrow_same, sample_is}
use Rattle.gfx_dwt.proofs.narrow.levels.join_first.Goals as goal

pub returns-clause-joined : goal.returns-clause-joined
returns-clause-joined c = λ narrow y x p q.
    let t = c.args.transform in
    let plane = c.args.coefficients.now in
    let whole = (nested t).whole in
    rw whole at (c.join_narrow_level.ensures.joined narrow y x (rw whole p) (rw whole q))
    ∙ level_same t First plane _ _ (c.if-not-join_second.ensures.joined refl) y x (rw whole p) (rw whole q)
    ∙ sample_is t plane y x (rw whole p) (rw whole q)

pub returns-clause-wide : goal.returns-clause-wide
returns-clause-wide c = λ wide stays.
    c.join_narrow_level.ensures.wide wide (narrow_same c.args.transform First c.args.coefficients.now _ _ (c.if-not-join_second.ensures.joined refl) stays.first)
