-- From where the home begins, place by place.
use Rattle.std.proofs.Common.{arith, sym, ◌∙◌, ◌≡◌, ◌<◌, ℕ, List, length, false, subst, ap}
use Rattle.gfx_glyph.specs.Glyphs.{Slot, slot_at, stands}
use Rattle.gfx_glyph.proofs.Entering.{read_start}
use Rattle.gfx_glyph.proofs.Finding.{found_here, found_none}
use Rattle.gfx_glyph.proofs.glyphs.Glyphs.find.Goals as goal

pub places-init : goal.places-init
places-init c =
    let a = c.self.inside in
    subst (λ (z : List Slot). (k : ℕ) → k < c.index-start.result.now → stands c.args.width c.args.height c.args.pixels.now (slot_at z k) ≡ false) c.self.view_is
    (read_start a.slots.items a.prints.items a.starts.items c.print_of-print.result c.args.width c.args.height c.index-start.result.now c.args.pixels.now
    c.self.invariant.entered (omega (arith, c.self.invariant.starts)) c.index-start.ensures c.print_of-print.ensures)

pub returns-then-stands_at-clause-least : goal.returns-then-stands_at-clause-least
returns-then-stands_at-clause-least c =
    let long : length c.args.self.now ≡ 4000 = ap length (sym c.self.view_is) ∙ c.self.invariant.slots in
    found_here c.args.self.now (stands c.args.width c.args.height c.args.pixels.now) c.places.place (omega (arith, long)) (sym c.stands_at.ensures ∙ c.if-stands_at.true) c.places.invariant

pub returns-clause-least : goal.returns-clause-least
returns-clause-least c =
    let long : length c.args.self.now ≡ 4000 = ap length (sym c.self.view_is) ∙ c.self.invariant.slots in
    found_none c.args.self.now (stands c.args.width c.args.height c.args.pixels.now) c.places.place (omega (arith, long)) c.places.invariant
