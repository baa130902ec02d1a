use Rattle.std.proofs.Common.{◌≡◌, ◌∙◌, ◌-ℤ◌, ap, refl, FitsSigned, w32, to_z, arith, rules}
use Rattle.std.proofs.lemmas.Int.{to_z-of_z, ints}
use Rattle.gfx_dwt.specs.Ranges.{at}
use Rattle.gfx_tile_make.specs.Planes.{differences}
use Rattle.gfx_tile_make.proofs.Differing.{all-different, due-here, differs-more, last-of}
use Rattle.gfx_rfx_video.proofs.coding.differ.Goals as goal

pub loop-place-init : goal.loop-place-init
unfolding differences last-of
loop-place-init c = (refl, refl, record { low = omega (arith, ints); high = omega (arith, ints) })

pub behind-requires-clause-value : goal.behind-requires-clause-value
behind-requires-clause-value c =
    let i = c.loop-place.place in
    let value : FitsSigned w32 (at c.loop-place.values i) = search rules in
    rw (to_z-of_z w32 (at c.loop-place.values i) value, due-here c.args.values.now c.loop-place.values i c.loop-place-test.true c.loop-place.invariant.0) (c.requires i c.loop-place-test.true)

pub behind-requires-clause-last : goal.behind-requires-clause-last
behind-requires-clause-last c = c.loop-place.invariant.2

pub loop-place-preserved : goal.loop-place-preserved
loop-place-preserved c =
    let i = c.loop-place.place in
    let value : FitsSigned w32 (at c.loop-place.values i) = search rules in
    let result : FitsSigned w32 c.behind.result = record { sfits = c.behind.type_inv } in
    let here : at c.loop-place.values i ≡ at c.args.values.now i = due-here c.args.values.now c.loop-place.values i c.loop-place-test.true c.loop-place.invariant.0 in
    let more = differs-more c.args.values.now c.loop-place.values i (to_z w32 c.loop-place.last-bits) c.behind.result c.loop-place-test.true c.loop-place.invariant.0 c.loop-place.invariant.1
    (c.behind.ensures ∙ ap (λ z. z -ℤ to_z w32 c.loop-place.last-bits) (to_z-of_z w32 (at c.loop-place.values i) value ∙ here)) in
    rw (to_z-of_z w32 c.behind.result result, to_z-of_z w32 (at c.loop-place.values i) value)
    (more.0, here ∙ more.1, rw here (c.requires i c.loop-place-test.true))

pub returns : goal.returns
returns c = all-different c.args.values.now c.loop-place.values c.loop-place.place c.loop-place-test.false c.loop-place.invariant.0
