use Rattle.std.proofs.Common.{◌∙◌, sym, refl}
use Rattle.std.proofs.lemmas.Result.{err_from_is_err_and}
use Rattle.gfx_base.proofs.Wanting.{wants_any}
use Rattle.gfx_prog_block.proofs.BlockLaws.{blocks_begin}
use Rattle.gfx_prog_decode.specs.Scene.{scene}
use Rattle.gfx_prog_decode.proofs.Steps.{data_empty, data_read, data_unread}
use Rattle.gfx_prog_decode.proofs.applying.apply_data.Goals as goal

pub returns-in_err-blocks-clause-value : goal.returns-in_err-blocks-clause-value
returns-in_err-blocks-clause-value c =
    let p = err_from_is_err_and c.from_residual.result c.from_residual.ensures.1 in
    rw (p.1, p.2) (data_unread c.args.place c.args.bytes.now c.in_err-blocks.field-0.0 _ (scene c.args.records.now c.args.surface.now) (scene c.args.records.now c.args.surface.now) refl
    c.in_err-blocks.ensures.value refl)

pub returns-in_err-blocks-clause-memory : goal.returns-in_err-blocks-clause-memory
returns-in_err-blocks-clause-memory c =
    let p = err_from_is_err_and c.from_residual.result c.from_residual.ensures.1 in
    rw (p.1, p.2) c.in_err-blocks.ensures.memory

pub returns-then-is_empty-clause-value : goal.returns-then-is_empty-clause-value
returns-then-is_empty-clause-value c =
    data_empty c.args.place c.args.bytes.now c.in_ok-blocks.blocks (scene c.args.records.now c.args.surface.now) c.in_ok-blocks.ensures.value
    (sym c.is_empty.ensures ∙ c.if-is_empty.true)

pub returns-clause-value : goal.returns-clause-value
returns-clause-value c =
    data_read c.args.place c.args.bytes.now c.in_ok-blocks.blocks c.apply_all.result (scene c.args.records.now c.args.surface.now) (scene c.apply_all.new.records c.apply_all.new.surface)
    c.in_ok-blocks.ensures.value (rw c.as_slice.ensures at c.apply_all.ensures)

pub returns-clause-memory : goal.returns-clause-memory
returns-clause-memory c =
    wants_any c.apply_all.result _ (blocks_begin c.args.bytes.now c.in_ok-blocks.blocks c.in_ok-blocks.ensures.value (sym c.is_empty.ensures ∙ c.if-is_empty.false))
