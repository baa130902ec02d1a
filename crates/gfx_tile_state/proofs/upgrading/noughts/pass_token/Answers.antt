use Rattle.std.proofs.Common.{◌≡◌, ◌∙◌, ◌<◌, ◌≤◌, ◌+◌, pos, length, set, ap, sym, refl, take, arith, w32, to_z, of_z}
use Rattle.std.specs.Prelude.{slice_index}
use Rattle.std.proofs.lemmas.List.{get_or-take, length-take-le}
use Rattle.gfx_quant.specs.Coefficient.{coefficient_of}
use Rattle.gfx_tile_state.specs.Entries.{wrapped}
use Rattle.gfx_tile_state.proofs.Sums.{small-bits, surely, within_bits}
use Rattle.gfx_tile_state.proofs.Passing.{and-true, wrapped-within}
use Rattle.gfx_tile_state.proofs.Places.{set-coefficient}
use Rattle.gfx_tile_state.proofs.Sifting.{nought-put, zeros-passed}
use Rattle.gfx_tile_state.proofs.upgrading.noughts.pass_token.Goals as goal

pub returns-then-value-eq0-clause-sifted : goal.returns-then-value-eq0-clause-sifted
returns-then-value-eq0-clause-sifted c pass from to others done fits order end alike s =
    let value = small-bits c.step_of-passed.result.1 (within_bits c.step_of-passed.result.1 c.args.n c.requires.few c.step_of-passed.ensures.small) in
    let none : c.step_of-passed.result.1 ≡ pos 0 = sym value ∙ ap (to_z w32) c.if-value-eq0.true in
    let long : length (take c.args.count c.args.noughts.now) ≡ c.args.count = length-take-le c.args.count c.args.noughts.now (omega (arith, c.told-noughts, c.requires.room)) in
    let room : c.args.at + c.step_of-passed.result.0 ≤ length (take c.args.count c.args.noughts.now) = omega (arith, long, c.requires.left, c.step_of-passed.ensures.within) in
    rw (and-true fits)
    (zeros-passed pass from to c.args.n c.args.position (take c.args.count c.args.noughts.now) others c.args.at done c.step_of-passed.result.0 c.args.plane.now fits c.args.readers.now _ order c.requires.some alike
    room s (c.step_of-passed.ensures.zeros none).1 c.step_of-passed.ensures.bits)

pub put_entry-requires-clause-entry : goal.put_entry-requires-clause-entry
put_entry-requires-clause-entry c =
    let small = within_bits c.step_of-passed.result.1 c.args.n c.requires.few c.step_of-passed.ensures.small in
    rw (small-bits c.step_of-passed.result.1 small) small

pub put_entry-requires-clause-sure : goal.put_entry-requires-clause-sure
put_entry-requires-clause-sure c sure =
    let value = small-bits c.step_of-passed.result.1 (within_bits c.step_of-passed.result.1 c.args.n c.requires.few c.step_of-passed.ensures.small) in
    rw value (surely c.step_of-passed.result.1 c.args.n c.args.position c.step_of-passed.ensures.small c.requires.least (c.requires.sure sure))

pub returns-clause-sifted : goal.returns-clause-sifted
returns-clause-sifted c pass from to others done fits order end alike s =
    let p = c.from-place.result in
    let plane = c.args.plane.now in
    let value = small-bits c.step_of-passed.result.1 (within_bits c.step_of-passed.result.1 c.args.n c.requires.few c.step_of-passed.ensures.small) in
    let read = c.step_of-passed.ensures.value (λ e. c.if-value-eq0.false (ap (of_z w32) e)) in
    let few = c.args.at + c.step_of-passed.result.0 in
    let long : length (take c.args.count c.args.noughts.now) ≡ c.args.count = length-take-le c.args.count c.args.noughts.now (omega (arith, c.told-noughts, c.requires.room)) in
    let listed : few < length (take c.args.count c.args.noughts.now) = omega (arith, long, c.requires.left, read.0) in
    let sum = wrapped (coefficient_of c.step_of-passed.result.1 c.args.position) in
    let put : c.put_entry.new.plane ≡ set plane p sum = rw value at c.put_entry.ensures.sum in
    rw put
    (nought-put pass from to c.args.n c.args.position (take c.args.count c.args.noughts.now) others c.args.at done c.step_of-passed.result.0 p plane (set plane p sum) fits c.put_entry.result
    c.args.readers.now _ c.step_of-passed.result.1 order (omega (arith, c.told-plane)) c.requires.some alike listed
    (c.from-place.ensures ∙ sym (get_or-take c.args.count c.args.noughts.now few 0 (omega (arith, c.requires.left, read.0))))
    s read.1 c.step_of-passed.ensures.bits refl (rw value at c.put_entry.ensures.fits))

pub returns-clause-coefficients : goal.returns-clause-coefficients
returns-clause-coefficients c =
    let p = c.from-place.result in
    let plane = c.args.plane.now in
    let value = small-bits c.step_of-passed.result.1 (within_bits c.step_of-passed.result.1 c.args.n c.requires.few c.step_of-passed.ensures.small) in
    let read = c.step_of-passed.ensures.value (λ e. c.if-value-eq0.false (ap (of_z w32) e)) in
    let few = c.args.at + c.step_of-passed.result.0 in
    let below : slice_index c.args.noughts.now few < 4096 = c.requires.inside few (omega (arith, c.requires.left, read.0)) in
    let inside : p < length plane = omega (arith, c.told-plane, below, c.from-place.ensures) in
    let sum = wrapped (coefficient_of c.step_of-passed.result.1 c.args.position) in
    let put : c.put_entry.new.plane ≡ set plane p sum = rw value at c.put_entry.ensures.sum in
    rw put (set-coefficient plane p sum inside (wrapped-within _) c.requires.coefficients)
