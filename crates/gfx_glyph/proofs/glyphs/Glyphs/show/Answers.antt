-- A glyph that is shown has its area.
use Rattle.std.proofs.Common.{arith, ap, sym, ◌∙◌, length}
use Rattle.gfx_glyph.proofs.Same.{size_area}
use Rattle.gfx_glyph.proofs.Entering.{read_slot}
use Rattle.gfx_glyph.proofs.glyphs.Glyphs.show.Goals as goal

pub returns-in-Some-clause-area : goal.returns-in-Some-clause-area
returns-in-Some-clause-area c =
    let held = c.in-Some.glyph in
    let found = read_slot c.self.inside.slots.items c.from-3.result c.index.result.now held (omega (arith, c.self.invariant.slots)) c.index.ensures c.in-Some.is in
    size_area held c.args.width c.args.height (length c.as_slice.result.now) (sym c.has_size.ensures ∙ c.if-has_size.true)
    (ap length c.as_slice.ensures ∙ (c.self.invariant.entered c.from-3.result held found).area)
