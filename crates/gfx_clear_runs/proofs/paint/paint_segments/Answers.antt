-- A palette that is cut short, and one that is whole.
use Rattle.std.proofs.Common.{arith, ◌∙◌, sym, ap, subst, length}
use Rattle.gfx_clear_runs.specs.Elements.{stop_bits}
use Rattle.gfx_clear_runs.specs.Outcome.{Paints}
use Rattle.gfx_clear_runs.specs.Reading.{Part}
use Rattle.gfx_clear_runs.proofs.Painting.{paving_refused}
use Rattle.gfx_clear_runs.proofs.Segments.{length-entries, cut_palette, segments_read}
use Rattle.gfx_clear_runs.proofs.paint.paint_segments.Goals as goal

pub returns-then-bytes-size : goal.returns-then-bytes-size
returns-then-bytes-size c = paving_refused (length c.args.out.now) _ _ (cut_palette c.args.count c.args.bytes.now c.if-bytes-size.true)

pub invariant_of-palette : goal.invariant_of-palette
invariant_of-palette c = record {
  bits_of = c.stop_bits.ensures.value ∙ ap stop_bits (sym (ap length c.read_entries.ensures ∙ length-entries c.args.count c.args.bytes.now));
  few = c.stop_bits.ensures.few;
}

pub returns : goal.returns
returns c =
    let same = segments_read c.args.count c.args.bytes.now c.read_entries.result.items c.split_at.result.1.now c.read_entries.ensures c.split_at.ensures.back (omega arith) in
    subst (λ (z : Part). Paints c.paint_part.result (length c.args.out.now) z c.paint_part.new.out) (sym same) c.paint_part.ensures
