use Rattle.std.proofs.Common.{◌≤◌, ◌+◌, ℕ, Bool, is_some, arith}
use Rattle.gfx_glyph.specs.Glyphs.{slot_at}
use Rattle.gfx_report.specs.Audit.{glyphs_held}
use Rattle.gfx_report.specs.StateBytes.{glyph_bytes, glyphs_bytes}
use Rattle.gfx_report.proofs.Counts.{no_index_counted, index_counted, indices_within, indices_counted}
use Rattle.gfx_report.proofs.TookLemmas.{Owes_all}
use Rattle.gfx_report.proofs.DecoderBytes.{bytes_from-zero, index_next, index_end}
use Rattle.gfx_report.proofs.decoder.add_glyphs.Goals as goal

pub indices-init : goal.indices-init
unfolding glyphs_bytes
indices-init c = record {
  owes = Owes_all _ _ _ (bytes_from-zero (λ index. glyph_bytes index (slot_at c.args.glyphs.now index)) c.args.count);
  counted = no_index_counted (λ index. is_some (slot_at c.args.glyphs.now index)) c.args.count;
}

pub overflow_add-held : goal.overflow_add-held
overflow_add-held c =
    let passes : ℕ → Bool = λ index. is_some (slot_at c.args.glyphs.now index) in
    let counted = index_counted passes c.args.count c.indices.held c.indices.index _ _ c.indices-test.true c.add_index.ensures.held c.from-held.ensures c.indices.invariant.counted in
    omega (arith, indices_within passes c.args.count (c.indices.held + c.from-held.result) (c.indices.index + 1) counted)

pub indices-preserved : goal.indices-preserved
indices-preserved c = record {
  owes = index_next _ _ _ _ _ _ _ c.indices-test.true c.indices.invariant.owes c.add_index.ensures.took;
  counted = index_counted (λ index. is_some (slot_at c.args.glyphs.now index)) _ _ _ _ _ c.indices-test.true c.add_index.ensures.held c.from-held.ensures c.indices.invariant.counted;
}

pub returns : goal.returns
unfolding glyphs_bytes glyphs_held
returns c =
    let past : c.args.count ≤ c.indices.index = omega arith in
    record {
      took = index_end (λ index. glyph_bytes index (slot_at c.args.glyphs.now index)) _ _ _ _ _ past c.indices.invariant.owes;
      held = indices_counted (λ index. is_some (slot_at c.args.glyphs.now index)) _ _ _ past c.indices.invariant.counted;
    }
