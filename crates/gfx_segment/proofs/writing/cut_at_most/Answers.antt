use Rattle.std.proofs.Common.{take, drop, ap, ◌∙◌}
use Rattle.std.proofs.lemmas.List.{take_min, drop_min}
use Rattle.gfx_segment.proofs.writing.cut_at_most.Goals as goal

pub returns-clause-front : goal.returns-clause-front
returns-clause-front c = c.split_at.ensures.front ∙ ap (λ z. take z c.args.bytes.now) c.min.ensures ∙ take_min c.args.most c.args.bytes.now

pub returns-clause-back : goal.returns-clause-back
returns-clause-back c = c.split_at.ensures.back ∙ ap (λ z. drop z c.args.bytes.now) c.min.ensures ∙ drop_min c.args.most c.args.bytes.now
