use Rattle.gfx_window.proofs.RuleLaws.{superseded-rule}
use Rattle.gfx_window.proofs.promises.superseded_is_the_rule.Goals as goal

pub returns : goal.returns
returns c = superseded-rule
