-- All places are empty.
use Rattle.std.proofs.Common.{arith}
use Rattle.gfx_glyph.proofs.Entering.{made}
use Rattle.gfx_glyph.specs.declared.glyphs.TheConstants.{PLACES}
use Rattle.gfx_glyph.proofs.glyphs.no_slots.Goals as goal

pub returns : goal.returns
returns c = made c.slots.counter PLACES c.slots.slots.items c.slots.invariant.items (omega arith)
