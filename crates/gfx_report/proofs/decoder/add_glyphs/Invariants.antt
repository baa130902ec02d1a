use Rattle.std.proofs.Common.{is_some}
use Rattle.gfx_glyph.specs.Glyphs.{slot_at}
use Rattle.gfx_report.specs.StateBytes.{glyph_bytes, glyphs_bytes}
use Rattle.gfx_report.proofs.Counts.{IndicesCounted}
use Rattle.gfx_report.proofs.DecoderBytes.{bytes_from}
use Rattle.gfx_report.proofs.TookLemmas.{Owes}
use Rattle.gfx_report.proofs.decoder.add_glyphs.Given as goal

-- the indices from here on are still due, and those before are counted
abbrev pub invariant-indices : goal.invariant-indices
invariant-indices l = record {
  owes : Owes l.fn.hasher l.hasher (glyphs_bytes l.count l.fn.glyphs)
      (bytes_from (λ index. glyph_bytes index (slot_at l.fn.glyphs index)) l.count l.index);
  counted : IndicesCounted (λ index. is_some (slot_at l.fn.glyphs index)) l.count l.held l.index;
}
