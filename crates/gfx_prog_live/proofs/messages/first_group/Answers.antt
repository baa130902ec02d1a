use Rattle.std.proofs.Common.{◌∙◌}
use Rattle.gfx_prog_live.proofs.Groups.{drop_most, take_most}
use Rattle.gfx_prog_live.proofs.messages.first_group.Goals as goal

pub returns-clause-group : goal.returns-clause-group
returns-clause-group c = c.split_at.ensures.front ∙ take_most c.min.result c.args.sends.now c.min.ensures

pub returns-clause-rest : goal.returns-clause-rest
returns-clause-rest c = c.split_at.ensures.back ∙ drop_most c.min.result c.args.sends.now c.min.ensures
