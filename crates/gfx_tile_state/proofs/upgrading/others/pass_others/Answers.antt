use Rattle.std.proofs.Common.{rules, ◌≡◌, ◌∙◌, ◌<◌, ◌+◌, ◌+ℤ◌, ◌&&◌, length, set, sym, refl, length-set, take, arith, subst, FitsSigned, w16}
use Rattle.std.specs.Prelude.{slice_index}
use Rattle.std.proofs.lemmas.Int.{to_z-of_z}
use Rattle.std.proofs.lemmas.List.{get_or-take, length-take-le}
use Rattle.gfx_dwt.specs.Ranges.{at}
use Rattle.gfx_quant.specs.Coefficient.{coefficient_of}
use Rattle.gfx_tile_state.specs.Entries.{wrapped}
use Rattle.gfx_tile_state.specs.Sifting.{Sifted}
use Rattle.gfx_tile_state.proofs.Sums.{small-bits}
use Rattle.gfx_tile_state.proofs.Passing.{and-more, wrapped-within}
use Rattle.gfx_tile_state.proofs.Places.{set-coefficient}
use Rattle.gfx_tile_state.proofs.Sifting.{other-read}
use Rattle.gfx_tile_state.proofs.upgrading.others.pass_others.Goals as goal

pub loop-index-preserved : goal.loop-index-preserved
loop-index-preserved c =
    let o = c.loop-index.index in
    let p = c.from-place.result in
    let plane = c.loop-index.plane in
    let held = c.loop-index.invariant in
    let first : o < c.args.count = omega arith in
    let below : slice_index c.args.others.now o < 4096 = c.requires.inside o first in
    let inside : p < length plane = omega (arith, held.long, below, c.from-place.ensures) in
    let was : FitsSigned w16 (at plane p) = search rules in
    let entry = small-bits c.read_raw-entry.result c.read_raw-entry.ensures.small in
    let reads = rw (to_z-of_z w16 (at plane p) was) at c.read_raw-entry.ensures.reads in
    let sum = wrapped (at plane p +ℤ coefficient_of c.read_raw-entry.result c.args.position) in
    let put : c.add_entry-fits.new.plane ≡ set plane p sum = rw entry at c.add_entry-fits.ensures.sum in
    let listed : o < length (take c.args.count c.args.others.now) = omega (arith, length-take-le c.args.count c.args.others.now (omega (arith, c.told-others, c.requires.room))) in
    rw put (record {
      long = length-set _ _ _ ∙ held.long;
      coefficients = set-coefficient plane p sum inside (wrapped-within _) held.coefficients;
      sifted = λ pass from to noughts fits order end alike s.
          subst (λ b. Sifted pass from to noughts (take c.args.count c.args.others.now) 0 (o + 1) (set plane p sum) b c.read_raw-entry.new.readers) (and-more fits c.loop-index.fits c.add_entry-fits.result)
          (other-read pass from to c.args.n c.args.position noughts (take c.args.count c.args.others.now) 0 o p plane (set plane p sum) (fits && c.loop-index.fits) c.add_entry-fits.result
          c.loop-index.readers c.read_raw-entry.new.readers c.read_raw-entry.result order (omega (arith, held.long)) alike listed
          (c.from-place.ensures ∙ sym (get_or-take c.args.count c.args.others.now o 0 first))
          (held.sifted pass from to noughts fits order end alike s)
          (λ apart. reads (λ e. apart))
          refl
          (rw entry at c.add_entry-fits.ensures.fits));
    })
