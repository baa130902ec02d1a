use Rattle.std.proofs.Common.{ℕ, List, Bor, sym, ◌∙◌}
use Rattle.std.proofs.lemmas.Result.{err_from_is_err_and}
use Rattle.gfx_segment.proofs.BlockLemmas.{none_read, segments_no_count, segments_no_size, segments_failed, segments_whole, segments_unequal, Counts}
use Rattle.gfx_segment.proofs.blocks.read_segments.Goals as goal

pub returns-in_default : goal.returns-in_default
returns-in_default c = segments_no_count _ (none_read _ _ c.field_u16.ensures.value c.in_default.not-Some)

pub returns-in_default-field_u32 : goal.returns-in_default-field_u32
returns-in_default-field_u32 c =
    segments_no_size _ _ (sym c.field_u16.ensures.value ∙ c.in-Some.is) (none_read _ _ c.field_u32.ensures.value c.in_default-field_u32.not-Some)

pub returns-in_err-after : goal.returns-in_err-after
returns-in_err-after c =
    let counts : Counts c.args.bytes.now c.in-Some.count c.in-Some-field_u32.size = record { count_is = sym c.field_u16.ensures.value ∙ c.in-Some.is; size_is = sym c.field_u32.ensures.value ∙ c.in-Some-field_u32.is } in
    let p = err_from_is_err_and c.from_residual.result c.from_residual.ensures.1 in
    let failed = rw (c.truncate.ensures, c.split_at.ensures.back) at c.in_err-after.ensures in
    rw (p.1, p.2) (segments_failed {X = Bor (List ℕ)} _ _ _ (λ after. (c.append_blocks.new.payload, after.now)) _ counts failed)

pub returns-then-not-is_agreed : goal.returns-then-not-is_agreed
returns-then-not-is_agreed c =
    let counts : Counts c.args.bytes.now c.in-Some.count c.in-Some-field_u32.size = record { count_is = sym c.field_u16.ensures.value ∙ c.in-Some.is; size_is = sym c.field_u32.ensures.value ∙ c.in-Some-field_u32.is } in
    let found = rw (c.truncate.ensures, c.split_at.ensures.back) at c.in_ok-after.ensures in
    segments_unequal _ _ _ _ _ counts found (sym c.if-not-is_agreed.ensures)

pub returns : goal.returns
returns c =
    let counts : Counts c.args.bytes.now c.in-Some.count c.in-Some-field_u32.size = record { count_is = sym c.field_u16.ensures.value ∙ c.in-Some.is; size_is = sym c.field_u32.ensures.value ∙ c.in-Some-field_u32.is } in
    let found = rw (c.truncate.ensures, c.split_at.ensures.back) at c.in_ok-after.ensures in
    segments_whole _ _ _ _ _ counts found (sym c.if-not-is_agreed.ensures)
