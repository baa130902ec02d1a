use Rattle.gfx_chooser.specs.Seen.{seen}
use Rattle.gfx_script.specs.Script.{step_at}
use Rattle.gfx_chooser.proofs.Answering.{goes_chosen, goes_own}
use Rattle.gfx_chooser.proofs.choosing.kind_at.Goals as goal

pub returns-in-Some : goal.returns-in-Some
returns-in-Some g c =
    goes_chosen c.args.script.now c.args.number (step_at c.args.script.now.steps c.args.number) c.in-Some.facts c.choose.result
    (seen g.C.Chooser.reply g.C.Chooser.is_spent c.args.choosers.now.items) (seen g.C.Chooser.reply g.C.Chooser.is_spent c.choose.new.choosers.items)
    c.in-Some.ensures c.choose.ensures.kind c.choose.ensures.left

pub returns-in_ok-step-in-None : goal.returns-in_ok-step-in-None
returns-in_ok-step-in-None g c =
    goes_own c.args.script.now c.args.number (step_at c.args.script.now.steps c.args.number) c.in_ok-step-in-None.field-0.now c.kind.result
    (seen g.C.Chooser.reply g.C.Chooser.is_spent c.args.choosers.now.items)
    c.in_ok-step-in-None.ensures c.in-None.ensures c.kind.ensures
