use Rattle.std.proofs.Common.{◌++◌, take, drop, ap, ◌∙◌, arith}
use Rattle.std.proofs.lemmas.List.{take_min, drop_min}
use Rattle.gfx_dvc.specs.declared.profile.TheConstants.{MOST_DATA}
use Rattle.gfx_dvc.specs.Cutting.{data_fragments}
use Rattle.gfx_dvc.proofs.CutLemmas.{recorded_pieces, sent_none, sent_more, sent_all}
use Rattle.gfx_dvc.proofs.splitting.put_all.Goals as goal

pub pieces-init : goal.pieces-init
pieces-init c = sent_none _ _ _ _ _ (omega arith)

pub pieces-preserved : goal.pieces-preserved
pieces-preserved c =
    sent_more _ _ _ _ _ _ _ _ _ _ _ (omega arith)
    (c.split_at.ensures.front ∙ ap (λ z. take z c.pieces.rest.now) c.min.ensures ∙ take_min MOST_DATA c.pieces.rest.now)
    (c.split_at.ensures.back ∙ ap (λ z. drop z c.pieces.rest.now) c.min.ensures ∙ drop_min MOST_DATA c.pieces.rest.now)
    c.in_ok-put_data.ensures c.pieces.invariant

pub returns : goal.returns
unfolding data_fragments
returns c = sent_all _ _ _ _ _ _ _ (omega arith) c.pieces.invariant ∙ ap (λ z. c.args.out.now ++ recorded_pieces MOST_DATA z c.args.bytes.now) c.div_ceil-count.ensures
