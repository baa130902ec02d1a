use Rattle.std.proofs.Common.{◌∙◌, refl}
use Rattle.gfx_dwt.specs.declared.layout.Scale.TheVariants.{Second}
use Rattle.gfx_dwt.proofs.Levels.{nested}
use Rattle.gfx_dwt.proofs.NarrowLevels.{level_same, narrow_same, second_is}
use Rattle.gfx_dwt.proofs.narrow.levels.join_second.Goals as goal

pub returns-clause-joined : goal.returns-clause-joined
returns-clause-joined c = λ narrow r k p q.
    let t = c.args.transform in
    let plane = c.args.coefficients.now in
    let size = (nested t).second_size in
    rw size at (c.join_narrow_level.ensures.joined narrow r k (rw size p) (rw size q))
    ∙ level_same t Second plane _ _ (c.if-not-join_third.ensures.joined refl) r k (rw size p) (rw size q)
    ∙ second_is t plane r k (rw size p) (rw size q)

pub returns-clause-wide : goal.returns-clause-wide
returns-clause-wide c = λ wide stays.
    c.join_narrow_level.ensures.wide wide (narrow_same c.args.transform Second c.args.coefficients.now _ _ (c.if-not-join_third.ensures.joined refl) stays.second)
