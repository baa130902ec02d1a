use Rattle.std.proofs.Common.{subst, FitsSigned, w32, arith, rules}
use Rattle.std.proofs.lemmas.Int.{to_z-of_z}
use Rattle.gfx_dwt.specs.Ranges.{at}
use Rattle.gfx_tile_make.specs.Writing.{HasPassed}
use Rattle.gfx_tile_make.proofs.Places.{due-passes}
use Rattle.gfx_tile_make.proofs.passing.write_places.Goals as goal

pub write_entry-requires-clause-small : goal.write_entry-requires-clause-small
write_entry-requires-clause-small c =
    let value : FitsSigned w32 (at c.args.values.now c.loop-place.place) = search rules in
    rw (to_z-of_z w32 (at c.args.values.now c.loop-place.place) value) (c.requires.small c.loop-place.place (omega arith))

pub loop-place-preserved : goal.loop-place-preserved
loop-place-preserved c = λ pass entries band low due before.
    let value : FitsSigned w32 (at c.args.values.now c.loop-place.place) = search rules in
    due-passes pass entries c.args.values.now band c.args.before c.args.behind c.args.from c.args.to c.loop-place.place c.args.low c.loop-place.writers c.write_entry.new.writers low due
    (omega arith) c.loop-place-test.true c.requires.end (c.loop-place.invariant pass entries band low due before)
    (rw (to_z-of_z w32 (at c.args.values.now c.loop-place.place) value) at (c.in_ok-write_entry.ensures band low))

pub returns : goal.returns
returns c = λ pass entries band low due before.
    subst (λ k. HasPassed pass entries k c.loop-place.writers) {x = c.loop-place.place} {y = c.args.to} (omega arith) (c.loop-place.invariant pass entries band low due before)
