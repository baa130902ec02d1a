use Rattle.std.proofs.Common.{◌≡◌, ◌-◌, ◌+◌, suc, sym, ap, ◌∙◌, arith}
use Rattle.std.proofs.lemmas.Result.{err_from_is_err_and}
use Rattle.gfx_segment.specs.Framing.{blocks}
use Rattle.gfx_segment.specs.Pieces.{onto}
use Rattle.gfx_segment.proofs.BlockLemmas.{onto_none, onto_block, onto_cut_refused, onto_block_refused}
use Rattle.gfx_segment.proofs.blocks.append_blocks.Goals as goal

pub turns-preserved : goal.turns-preserved
turns-preserved c =
    let less : c.args.count - c.turns._index ≡ suc (c.args.count - (c.turns._index + 1)) = omega arith in
    c.turns.invariant
    ∙ onto_block _ _ _ _ _ _ _ less c.in_ok-cut.ensures c.in_ok-content_of.ensures.value
    ∙ ap (λ z. onto z (blocks (c.args.count - (c.turns._index + 1)) c.in_ok-cut.cut.after.now)) (sym (c.in_ok-append.ensures.ok))

pub returns-in_err-cut : goal.returns-in_err-cut
returns-in_err-cut c =
    let less : c.args.count - c.turns._index ≡ suc (c.args.count - (c.turns._index + 1)) = omega arith in
    let p = err_from_is_err_and c.from_residual.result c.from_residual.ensures.1 in
    rw (p.1, p.2) (c.turns.invariant ∙ onto_cut_refused _ _ _ _ _ less c.in_err-cut.ensures)

pub returns-in_err-content_of : goal.returns-in_err-content_of
returns-in_err-content_of c =
    let less : c.args.count - c.turns._index ≡ suc (c.args.count - (c.turns._index + 1)) = omega arith in
    let p = err_from_is_err_and c.from_residual-in_err-content_of.result c.from_residual-in_err-content_of.ensures.1 in
    rw (p.1, p.2) (c.turns.invariant ∙ onto_block_refused _ _ _ _ _ _ _ less c.in_ok-cut.ensures c.in_err-content_of.ensures.value)

pub returns : goal.returns
returns c = c.turns.invariant ∙ onto_none _ _ _ (omega arith)
