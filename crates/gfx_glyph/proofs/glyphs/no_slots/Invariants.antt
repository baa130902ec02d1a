use Rattle.std.proofs.Common.{◌≡◌, replicate, None}
use Rattle.std.specs.Vec.{vec_capacity}
use Rattle.gfx_glyph.specs.declared.glyphs.TheConstants.{PLACES}
use Rattle.gfx_glyph.proofs.glyphs.no_slots.Given as goal

abbrev pub invariant-slots : goal.invariant-slots
invariant-slots l = record { items : l.slots.items ≡ replicate l.counter None; room : vec_capacity l.slots ≡ PLACES }
