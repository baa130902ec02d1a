use Rattle.std.proofs.Common.{◌∙◌, ap}
use Rattle.gfx_script.specs.Drafts.{without_step}
use Rattle.gfx_script.proofs.Drafting.{frame_taken_back}
use Rattle.gfx_script.proofs.script.Script.end_frame.Goals as goal

pub returns-in-Err-clause-draft_unchanged : goal.returns-in-Err-clause-draft_unchanged
returns-in-Err-clause-draft_unchanged c =
    c.take_frame_back.ensures ∙ ap without_step c.in-Err.ensures.draft_unchanged ∙ frame_taken_back c.args.draft.now c.push.new.self c.in_ok-push.ensures.exact
