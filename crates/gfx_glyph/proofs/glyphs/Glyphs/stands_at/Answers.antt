-- Another print tells other pixels.
use Rattle.std.proofs.Common.{arith, ◌≡◌, subst, List, false}
use Rattle.gfx_glyph.specs.Glyphs.{Slot, slot_at, stands}
use Rattle.gfx_glyph.proofs.Entering.{read_other_at}
use Rattle.gfx_glyph.proofs.glyphs.Glyphs.stands_at.Goals as goal

pub returns-then-index-print : goal.returns-then-index-print
returns-then-index-print c =
    let a = c.self.inside in
    subst (λ (z : List Slot). false ≡ stands c.args.width c.args.height c.args.pixels.now (slot_at z c.args.place)) c.self.view_is
    (read_other_at a.slots.items a.prints.items a.starts.items c.args.place c.from-at.result c.args.print c.args.width c.args.height c.index.result.now c.args.pixels.now
    c.self.invariant.entered (omega (arith, c.self.invariant.prints)) c.index.ensures c.from-at.ensures c.if-index-print.true c.requires.print)
