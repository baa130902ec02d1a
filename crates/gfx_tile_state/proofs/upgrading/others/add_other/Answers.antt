use Rattle.std.proofs.Common.{rules, ◌≡◌, ◌∙◌, ◌<◌, ◌+ℤ◌, ap, cond, neg_ℤ, length, set, sym, refl, take, arith, FitsSigned, w16}
use Rattle.std.specs.Prelude.{slice_index}
use Rattle.std.proofs.lemmas.Int.{to_z-of_z}
use Rattle.std.proofs.lemmas.List.{get_or-take, length-take-le}
use Rattle.gfx_bits.specs.Bits.{number}
use Rattle.gfx_dwt.specs.Ranges.{at}
use Rattle.gfx_quant.specs.Coefficient.{coefficient_of}
use Rattle.gfx_tile_state.specs.Entries.{wrapped}
use Rattle.gfx_tile_state.proofs.Sums.{small-bits}
use Rattle.gfx_tile_state.proofs.Passing.{wrapped-within}
use Rattle.gfx_tile_state.proofs.Places.{set-coefficient}
use Rattle.gfx_tile_state.proofs.Reading.{reads-away}
use Rattle.gfx_tile_state.proofs.Sifting.{other-read}
use Rattle.gfx_tile_state.proofs.upgrading.others.add_other.Goals as goal

pub returns-clause-sifted : goal.returns-clause-sifted
returns-clause-sifted c pass from to n count noughts fits old new order end alike some first room magnitude on same s =
    let p = c.from-place.result in
    let plane = c.args.plane.now in
    let was : FitsSigned w16 (at plane p) = search rules in
    let entry = small-bits c.away-entry.result c.away-entry.ensures.small in
    let its = small-bits c.args.magnitude c.requires.magnitude in
    let sum = wrapped (at plane p +ℤ coefficient_of c.away-entry.result c.args.position) in
    let put : c.add_entry.new.plane ≡ set plane p sum = rw entry at c.add_entry.ensures.sum in
    let listed : c.args.index < length (take count c.args.others.now) = omega (arith, length-take-le count c.args.others.now (omega (arith, c.told-others))) in
    rw put
    (other-read pass from to n c.args.position noughts (take count c.args.others.now) 0 c.args.index p plane (set plane p sum) fits c.add_entry.result old new c.away-entry.result
    order (omega (arith, c.told-plane)) alike listed
    (c.from-place.ensures ∙ sym (get_or-take count c.args.others.now c.args.index 0 first))
    s
    (λ apart. reads-away n (number n old.bits) (at plane p) old new c.away-entry.result c.is_below_zero.result some apart
    (rw (to_z-of_z w16 (at plane p) was) at c.is_below_zero.ensures)
    (c.away-entry.ensures.value ∙ ap (λ z. cond c.is_below_zero.result (neg_ℤ z) z) (its ∙ magnitude))
    refl on same)
    refl
    (rw entry at c.add_entry.ensures.fits))

pub returns-clause-coefficients : goal.returns-clause-coefficients
returns-clause-coefficients c =
    let p = c.from-place.result in
    let plane = c.args.plane.now in
    let entry = small-bits c.away-entry.result c.away-entry.ensures.small in
    let below : slice_index c.args.others.now c.args.index < 4096 = c.requires.inside in
    let inside : p < length plane = omega (arith, c.told-plane, below, c.from-place.ensures) in
    let sum = wrapped (at plane p +ℤ coefficient_of c.away-entry.result c.args.position) in
    let put : c.add_entry.new.plane ≡ set plane p sum = rw entry at c.add_entry.ensures.sum in
    rw put (set-coefficient plane p sum inside (wrapped-within _) c.requires.coefficients)
