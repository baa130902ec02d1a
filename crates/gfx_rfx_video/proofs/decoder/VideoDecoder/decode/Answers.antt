use Rattle.std.proofs.Common.{◌∙◌, sym, refl}
use Rattle.std.proofs.lemmas.Result.{err_from_is_err_and}
use Rattle.gfx_base.proofs.Wanting.{wants_any}
use Rattle.gfx_rfx_video.proofs.Turns.{blocks-begin, data-empty, data-read, data-unread}
use Rattle.gfx_rfx_video.proofs.decoder.VideoDecoder.decode.Goals as goal

pub returns-in_err-blocks-clause-value : goal.returns-in_err-blocks-clause-value
returns-in_err-blocks-clause-value c =
    let p = err_from_is_err_and c.from_residual.result c.from_residual.ensures.1 in
    rw (p.1, p.2) (data-unread c.args.rect c.args.bytes.now c.in_err-blocks.field-0.0 _ c.args.surface.now c.args.surface.now refl c.in_err-blocks.ensures.value refl)

pub returns-in_err-blocks-clause-memory : goal.returns-in_err-blocks-clause-memory
returns-in_err-blocks-clause-memory c =
    let p = err_from_is_err_and c.from_residual.result c.from_residual.ensures.1 in
    rw (p.1, p.2) c.in_err-blocks.ensures.memory

pub returns-then-is_empty-clause-value : goal.returns-then-is_empty-clause-value
returns-then-is_empty-clause-value c =
    data-empty c.args.rect c.args.bytes.now c.in_ok-blocks.blocks c.args.surface.now c.in_ok-blocks.ensures.value (sym c.is_empty.ensures ∙ c.if-is_empty.true)

pub returns-clause-value : goal.returns-clause-value
returns-clause-value c =
    data-read c.args.rect c.args.bytes.now c.in_ok-blocks.blocks c.apply.result c.args.surface.now c.apply.new.surface c.in_ok-blocks.ensures.value
    (rw c.as_slice.ensures at c.apply.ensures)

pub returns-clause-memory : goal.returns-clause-memory
returns-clause-memory c =
    wants_any c.apply.result _ (blocks-begin c.args.bytes.now c.in_ok-blocks.blocks c.in_ok-blocks.ensures.value (sym c.is_empty.ensures ∙ c.if-is_empty.false))
