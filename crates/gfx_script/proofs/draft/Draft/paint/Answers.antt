use Rattle.std.proofs.Common.{◌∙◌, ap}
use Rattle.gfx_script.specs.Drafts.{without_picture}
use Rattle.gfx_script.proofs.Drafting.{taken_back}
use Rattle.gfx_script.proofs.draft.Draft.paint.Goals as goal

pub returns-in-Err-clause-unchanged : goal.returns-in-Err-clause-unchanged
returns-in-Err-clause-unchanged c =
    c.take_picture_back.ensures ∙ ap without_picture c.in-Err.ensures.unchanged ∙ taken_back c.args.self.now c.args.picture (c.in_ok-number.number, c.picture.new.self) c.in_ok-number.ensures.exact
