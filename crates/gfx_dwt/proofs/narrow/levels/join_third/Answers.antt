use Rattle.std.proofs.Common.{◌≡◌, ◌+◌, ◌-◌, ◌*◌, ◌<◌, ◌∙◌, ℕ, ℤ, List, drop, take, arith, ap}
use Rattle.gfx_dwt.specs.declared.layout.Transform.{Transform}
use Rattle.gfx_dwt.specs.declared.layout.Scale.TheVariants.{Third}
use Rattle.gfx_dwt.specs.declared.layout.Band.TheVariants.{Ll3}
use Rattle.gfx_dwt.specs.Place.{coefficient, low_size}
use Rattle.gfx_dwt.specs.Ranges.{at}
use Rattle.gfx_dwt.specs.Samples.{cell}
use Rattle.gfx_dwt.proofs.Levels.{nested}
use Rattle.gfx_dwt.proofs.NarrowLevels.{last_is, level_same, narrow_same, third_fits, third_is}
use Rattle.gfx_dwt.proofs.Planes.{place_in}
use Rattle.gfx_dwt.proofs.Strips.{strip_at}
use Rattle.gfx_dwt.proofs.narrow.levels.join_third.Goals as goal

-- LL3 as a part of its plane
ll_is : (t : Transform) (plane : List ℤ) (n : ℕ) → n ≡ low_size t Third → (r c : ℕ) → r < low_size t Third → c < low_size t Third → cell (low_size t Third) (take (4096 - (4096 - n * n)) (drop (4096 - n * n) plane)) r c ≡ coefficient t plane Ll3 r c
ll_is t plane n e i j a b =
    let square : n * n ≡ low_size t Third * low_size t Third = ap (λ m. m * m) e in
    let fits = third_fits t in
    let inside = place_in (low_size t Third) (low_size t Third) i j a b in
    strip_at (4096 - n * n) (4096 - (4096 - n * n)) plane (i * low_size t Third + j) (omega (arith, inside, square, fits))
    ∙ ap (λ m. at plane (4096 - m + (i * low_size t Third + j))) square ∙ last_is t plane i j

pub returns-clause-joined : goal.returns-clause-joined
returns-clause-joined c = λ narrow r k p q.
    let t = c.args.transform in
    let plane = c.args.coefficients.now in
    let size = (nested t).third_size in
    rw size at (c.join_narrow_level.ensures.joined narrow r k (rw size p) (rw size q))
    ∙ level_same t Third plane _ _ (ll_is t plane c.low_size-size.result c.low_size-size.ensures) r k (rw size p) (rw size q)
    ∙ third_is t plane r k (rw size p) (rw size q)

pub returns-clause-wide : goal.returns-clause-wide
returns-clause-wide c = λ wide narrow.
    let t = c.args.transform in
    let plane = c.args.coefficients.now in
    c.join_narrow_level.ensures.wide wide (narrow_same t Third plane _ _ (ll_is t plane c.low_size-size.result c.low_size-size.ensures) narrow)
