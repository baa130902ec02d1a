use Rattle.std.proofs.Common.{◌≡◌, false, subst, sym, rules}
use Rattle.std.specs.Prelude.{IfSome}
use Rattle.gfx_prog_live.specs.Live.{at_start}
use Rattle.gfx_planner.specs.TileSteps.{is_video_paint, sends_tiles}
use Rattle.gfx_planner.specs.CanSend.{CanBeSent}
use Rattle.gfx_planner.specs.Planned.{MaySend, SendsMade}
use Rattle.gfx_planner.proofs.PassesSending.{made_apart}
use Rattle.gfx_planner.proofs.step_sending.send_step.Goals as goal

pub send_apart-requires-clause-possible : goal.send_apart-requires-clause-possible
send_apart-requires-clause-possible c =
    let apart : sends_tiles c.args.script.now.thin c.args.kind c.args.step.now ≡ false = search rules in
    let still : is_video_paint c.args.script.now.thin c.args.kind c.args.step.now ≡ false = search rules in
    subst CanBeSent (made_apart c.args.script.now c.args.sender.now c.args.passes.now at_start c.args.plan.now c.args.kind c.args.step.now apart still) c.requires.possible

pub send_apart-requires-clause-accepted : goal.send_apart-requires-clause-accepted
send_apart-requires-clause-accepted c =
    let apart : sends_tiles c.args.script.now.thin c.args.kind c.args.step.now ≡ false = search rules in
    let still : is_video_paint c.args.script.now.thin c.args.kind c.args.step.now ≡ false = search rules in
    subst (λ o. IfSome o (λ into. MaySend c.args.sender.now into.pdus)) (made_apart c.args.script.now c.args.sender.now c.args.passes.now at_start c.args.plan.now c.args.kind c.args.step.now apart still) c.requires.accepted

pub returns-clause-made : goal.returns-clause-made
returns-clause-made c =
    let apart : sends_tiles c.args.script.now.thin c.args.kind c.args.step.now ≡ false = search rules in
    let still : is_video_paint c.args.script.now.thin c.args.kind c.args.step.now ≡ false = search rules in
    subst (SendsMade c.send_apart.result c.args.sender.now c.send_apart.new.sender c.send_apart.new.plan c.args.out.now c.send_apart.new.out)
    (sym (made_apart c.args.script.now c.args.sender.now c.args.passes.now at_start c.args.plan.now c.args.kind c.args.step.now apart still)) c.send_apart.ensures
