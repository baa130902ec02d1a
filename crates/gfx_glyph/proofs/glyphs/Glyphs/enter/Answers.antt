-- The index takes the new glyph in.
use Rattle.std.proofs.Common.{arith, ◌∙◌}
use Rattle.std.proofs.lemmas.List.{length-set}
use Rattle.gfx_glyph.specs.Index.{home_of}
use Rattle.gfx_glyph.proofs.Entering.{entered_more, lower}
use Rattle.gfx_glyph.proofs.glyphs.Glyphs.enter.Goals as goal

pub invariant_of-self : goal.invariant_of-self
invariant_of-self c =
    let a = c.self.inside in
    let sound = c.self.invariant in
    record {
      slots = length-set a.slots.items _ _ ∙ sound.slots;
      prints = length-set a.prints.items _ _ ∙ sound.prints;
      starts = length-set a.starts.items _ _ ∙ sound.starts;
      entered = entered_more a.slots.items a.prints.items a.starts.items c.from-at.result c.args.print c.min.result c.args.glyph sound.entered
          (omega (arith, sound.slots)) (omega (arith, sound.prints)) (omega (arith, sound.starts)) c.requires.print c.requires.area
          (lower a.starts.items (home_of c.args.print) c.index.result.now c.args.place c.from-at.result c.min.result
          (omega (arith, sound.starts)) c.index.ensures c.min.ensures c.from-at.ensures);
    }
