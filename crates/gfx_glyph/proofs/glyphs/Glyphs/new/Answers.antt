-- The index of no glyphs.
use Rattle.std.proofs.Common.{arith}
use Rattle.gfx_glyph.proofs.Entering.{entered_none, length_none}
use Rattle.gfx_glyph.specs.declared.glyphs.TheConstants.{PLACES}
use Rattle.gfx_glyph.proofs.glyphs.Glyphs.new.Goals as goal

pub invariant_of-result : goal.invariant_of-result
invariant_of-result c = record {
  slots = length_none PLACES c.in_ok-slots.slots.items c.in_ok-slots.ensures;
  prints = omega (arith, c.in_ok-prints.ensures.len);
  starts = omega (arith, c.in_ok-starts.ensures.len);
  entered = entered_none PLACES c.in_ok-slots.slots.items c.in_ok-prints.prints.items c.in_ok-starts.starts.items c.in_ok-slots.ensures;
}
