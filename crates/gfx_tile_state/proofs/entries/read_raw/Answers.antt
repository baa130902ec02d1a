use Rattle.std.proofs.Common.{◌∙◌, ap, cond, neg_ℤ, refl, w16}
use Rattle.std.proofs.lemmas.Int.{to_z-of_z}
use Rattle.gfx_bits.specs.Bits.{number}
use Rattle.gfx_tile_state.proofs.Sums.{small-bits}
use Rattle.gfx_tile_state.proofs.Reading.{reads-number, reads-away}
use Rattle.gfx_tile_state.proofs.entries.read_raw.Goals as goal

pub returns-then-low-clause-reads : goal.returns-then-low-clause-reads
returns-then-low-clause-reads c some =
    rw (c.if-low.true, small-bits c.read_number.result c.read_number.ensures.small, c.read_number.ensures.value)
    (reads-number c.args.n _ c.args.sum c.args.readers.now _ c.requires.some refl c.read_number.ensures.rest refl)

pub returns-clause-reads : goal.returns-clause-reads
returns-clause-reads c some =
    let magnitude = small-bits c.read_number-2.result c.read_number-2.ensures.small in
    rw (c.if-low.false, small-bits c.away.result c.away.ensures.small)
    (reads-away c.args.n (number c.args.n c.args.readers.now.bits) c.args.sum c.args.readers.now _ c.away.result c.is_below_zero.result c.requires.some
    (some c.if-low.false)
    (rw (to_z-of_z w16 c.args.sum c.ranges.sum) at c.is_below_zero.ensures)
    (c.away.ensures.value ∙ ap (λ z. cond c.is_below_zero.result (neg_ℤ z) z) (magnitude ∙ c.read_number-2.ensures.value))
    refl c.read_number-2.ensures.rest refl)
