use Rattle.std.proofs.Common.{◌≡◌, ◌<◌, ◌∙◌, ◌+ℤ◌, ap, length, refl, sym, FitsSigned, w16, w32, to_z, of_z, pos, arith, rules}
use Rattle.std.proofs.lemmas.Int.{to_z-of_z, ints}
use Rattle.gfx_dwt.specs.Ranges.{at}
use Rattle.gfx_quant.specs.Coefficient.{is_coefficient}
use Rattle.gfx_tile_state.specs.Passes.{running}
use Rattle.gfx_tile_state.proofs.Running.{total, due-here, running-at, sums-more}
use Rattle.gfx_tile_state.proofs.Places.{within-more}
use Rattle.gfx_rfx_video.proofs.running.sum_up.Goals as goal

pub loop-place-init : goal.loop-place-init
unfolding running total
loop-place-init c = (refl, refl, record { low = omega (arith, ints); high = omega (arith, ints) })

pub more-total-requires-clause-number : goal.more-total-requires-clause-number
more-total-requires-clause-number c =
    let i = c.loop-place.place in
    let inside : i < length c.args.values.now = c.loop-place-test.true in
    let value : FitsSigned w16 (at c.loop-place.values i) = search rules in
    let wide : FitsSigned w32 c.widened.result = record { sfits = c.widened.type_inv } in
    rw (to_z-of_z w32 c.widened.result wide, c.widened.ensures.value, to_z-of_z w16 (at c.loop-place.values i) value, due-here c.args.values.now c.loop-place.values i inside c.loop-place.invariant.0)
    (c.requires.small i inside)

pub returns-then-not-is_small : goal.returns-then-not-is_small
returns-then-not-is_small c =
    let i = c.loop-place.place in
    let inside : i < length c.args.values.now = c.loop-place-test.true in
    let value : FitsSigned w16 (at c.loop-place.values i) = search rules in
    let wide : FitsSigned w32 c.widened.result = record { sfits = c.widened.type_inv } in
    let sum : FitsSigned w32 c.more-total.result = record { sfits = c.more-total.type_inv } in
    let here : at c.loop-place.values i ≡ at c.args.values.now i = due-here c.args.values.now c.loop-place.values i inside c.loop-place.invariant.0 in
    let is : to_z w32 c.loop-place.total-bits +ℤ at c.args.values.now i ≡ c.more-total.result =
    sym (c.more-total.ensures ∙ ap (λ z. to_z w32 c.loop-place.total-bits +ℤ z) (to_z-of_z w32 c.widened.result wide ∙ c.widened.ensures.value ∙ to_z-of_z w16 (at c.loop-place.values i) value ∙ here)) in
    let there : at (running (pos 0) c.args.values.now) i ≡ c.more-total.result =
    running-at (pos 0) c.args.values.now i inside ∙ ap (λ z. z +ℤ at c.args.values.now i) (sym c.loop-place.invariant.1) ∙ is in
    (i, inside, ap is_coefficient (there ∙ sym (to_z-of_z w32 c.more-total.result sum)) ∙ sym c.is_small.ensures ∙ c.if-not-is_small.true)

pub loop-place-preserved : goal.loop-place-preserved
unfolding running
loop-place-preserved c =
    let i = c.loop-place.place in
    let inside : i < length c.args.values.now = c.loop-place-test.true in
    let value : FitsSigned w16 (at c.loop-place.values i) = search rules in
    let wide : FitsSigned w32 c.widened.result = record { sfits = c.widened.type_inv } in
    let sum : FitsSigned w32 c.more-total.result = record { sfits = c.more-total.type_inv } in
    let short : FitsSigned w16 c.narrowed.result = record { sfits = c.narrowed.type_inv } in
    let here : at c.loop-place.values i ≡ at c.args.values.now i = due-here c.args.values.now c.loop-place.values i inside c.loop-place.invariant.0 in
    let is : c.more-total.result ≡ to_z w32 c.loop-place.total-bits +ℤ at c.args.values.now i =
    c.more-total.ensures ∙ ap (λ z. to_z w32 c.loop-place.total-bits +ℤ z) (to_z-of_z w32 c.widened.result wide ∙ c.widened.ensures.value ∙ to_z-of_z w16 (at c.loop-place.values i) value ∙ here) in
    let put : to_z w16 (of_z w16 c.narrowed.result) ≡ c.more-total.result =
    to_z-of_z w16 c.narrowed.result short ∙ c.narrowed.ensures ∙ to_z-of_z w32 c.more-total.result sum in
    let more = sums-more c.args.values.now c.loop-place.values i (to_z w32 c.loop-place.total-bits) c.more-total.result inside c.loop-place.invariant.0 c.loop-place.invariant.1 is in
    rw (put, to_z-of_z w32 c.more-total.result sum)
    (more.0, more.1, rw is (within-more (to_z w32 c.loop-place.total-bits) (at c.args.values.now i) i c.loop-place.invariant.2 (c.requires.small i inside)))
