use Rattle.std.proofs.Common.{take, drop, length, ap, ◌∙◌}
use Rattle.std.proofs.lemmas.List.{take_min, drop_min}
use Rattle.gfx_dvc.specs.declared.profile.TheConstants.{MOST_NARROW_DATA}
use Rattle.gfx_dvc.specs.Cutting.{narrow_fragment}
use Rattle.gfx_dvc.proofs.CutLemmas.{puts_several}
use Rattle.gfx_dvc.proofs.splitting.put_narrow_message.Goals as goal

pub returns : goal.returns
returns c =
    puts_several _ (narrow_fragment (length c.args.message.now)) MOST_NARROW_DATA c.args.message.now _ _ _ _ _
    (c.split_at.ensures.front ∙ ap (λ z. take z c.args.message.now) c.min.ensures ∙ take_min MOST_NARROW_DATA c.args.message.now)
    (c.split_at.ensures.back ∙ ap (λ z. drop z c.args.message.now) c.min.ensures ∙ drop_min MOST_NARROW_DATA c.args.message.now)
    c.in_ok-put_narrow.ensures c.put_all.ensures
