-- A palette that is cut short, and one that is whole.
use Rattle.std.proofs.Common.{arith, ◌∙◌, sym, ap, subst, length}
use Rattle.gfx_clear_runs.specs.Elements.{stop_bits}
use Rattle.gfx_clear_runs.specs.Outcome.{Appends}
use Rattle.gfx_clear_runs.specs.Reading.{Part}
use Rattle.gfx_clear_runs.proofs.Appending.{ends_refused}
use Rattle.gfx_clear_runs.proofs.Segments.{length-entries, cut_palette, segments_read}
use Rattle.gfx_clear_runs.proofs.read.append_segments.Goals as goal

pub returns-then-bytes-size : goal.returns-then-bytes-size
returns-then-bytes-size c =
    ends_refused c.args.area _ _ c.args.out.now (cut_palette c.args.count c.args.bytes.now c.if-bytes-size.true)

pub invariant_of-palette : goal.invariant_of-palette
invariant_of-palette c = record {
  bits_of = c.stop_bits.ensures.value ∙ ap stop_bits (sym (ap length c.read_entries.ensures ∙ length-entries c.args.count c.args.bytes.now));
  few = c.stop_bits.ensures.few;
}

pub returns : goal.returns
returns c =
    let same = segments_read c.args.count c.args.bytes.now c.read_entries.result.items c.split_at.result.1.now c.read_entries.ensures c.split_at.ensures.back (omega arith) in
    subst (λ (z : Part). Appends c.append_part.result c.args.area z c.args.out.now c.append_part.new.out) (sym same) c.append_part.ensures
