use Rattle.std.proofs.Common.{rules, ◌≡◌, ◌∙◌, ◌<◌, ◌+◌, ◌+ℤ◌, length, set, length-set, arith, subst, FitsSigned, w16, ◌&&◌, true, refl}
use Rattle.std.proofs.lemmas.Int.{to_z-of_z}
use Rattle.gfx_dwt.specs.Ranges.{at}
use Rattle.gfx_quant.specs.Coefficient.{coefficient_of}
use Rattle.gfx_tile_state.specs.Entries.{Upgraded, wrapped}
use Rattle.gfx_tile_state.proofs.Sums.{small-bits}
use Rattle.gfx_tile_state.proofs.Passing.{place-read, and-more, wrapped-within}
use Rattle.gfx_tile_state.proofs.Places.{set-coefficient}
use Rattle.gfx_tile_state.proofs.upgrading.upgrade_low.Goals as goal

pub loop-place-preserved : goal.loop-place-preserved
loop-place-preserved c =
    let i = c.loop-place.place in
    let plane = c.loop-place.plane in
    let inside : i < length plane = omega (arith, c.loop-place.invariant.0) in
    let was : FitsSigned w16 (at plane i) = search rules in
    let entry = small-bits c.read_raw-entry.result c.read_raw-entry.ensures.small in
    let reads = rw (to_z-of_z w16 (at plane i) was) at c.read_raw-entry.ensures.reads in
    let sum = wrapped (at plane i +ℤ coefficient_of c.read_raw-entry.result c.args.position) in
    let put : c.add_entry-fits.new.plane ≡ set plane i sum = rw entry at c.add_entry-fits.ensures.sum in
    rw put (
      length-set _ _ _ ∙ c.loop-place.invariant.0,
      set-coefficient plane i sum inside (wrapped-within _) c.loop-place.invariant.1,
      λ pass fits alike u.
          subst (λ b. Upgraded pass (i + 1) (set plane i sum) b c.read_raw-entry.new.readers) (and-more fits c.loop-place.fits c.add_entry-fits.result)
          (place-read pass c.args.from c.args.to i c.args.n c.args.position true (fits && c.loop-place.fits) c.add_entry-fits.result plane c.loop-place.readers c.read_raw-entry.new.readers
          c.read_raw-entry.result sum (omega arith) (omega arith) inside alike (c.loop-place.invariant.2 pass fits alike u)
          (reads (λ e none. cc))
          refl
          (rw entry at c.add_entry-fits.ensures.fits)),
    )
