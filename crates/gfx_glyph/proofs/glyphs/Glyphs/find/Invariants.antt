use Rattle.std.proofs.Common.{◌≡◌, ℕ, ◌<◌, false}
use Rattle.gfx_glyph.specs.Glyphs.{slot_at, stands}
use Rattle.gfx_glyph.proofs.glyphs.Glyphs.find.Given as goal

abbrev pub invariant-places : goal.invariant-places
invariant-places l = (k : ℕ) → k < l.place → stands l.width l.height l.pixels (slot_at l.self k) ≡ false
