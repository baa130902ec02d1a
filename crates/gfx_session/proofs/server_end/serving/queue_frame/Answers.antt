use Rattle.std.proofs.Common.{◌∙◌, sym}
use Rattle.gfx_chooser.specs.Seen.{seen}
use Rattle.gfx_session.proofs.Queueing.{queueing_none, queueing_more, queueing_ends, queueing_past}
use Rattle.gfx_session.proofs.server_end.serving.queue_frame.Goals as goal

pub steps-init : goal.steps-init
steps-init g c = queueing_none c.args.script.now c.args.last (seen g.C.Chooser.reply g.C.Chooser.is_spent c.args.choosers.now.items) c.args.window.now c.requires.within

pub steps-preserved : goal.steps-preserved
steps-preserved g c =
    let found = sym (rw c.in-Some.is at c.step.ensures) in
    let other = sym c.is_frame.ensures ∙ c.if-is_frame.false in
    queueing_more c.args.script.now c.args.last c.steps.number _ _ _ c.args.window.now c.steps.window c.queue.new.self c.in-Some.step.now c.kind_at-kind.result c.steps.invariant found other c.kind_at-kind.ensures c.in_ok-queue.ensures.ok

pub returns-then-is_frame : goal.returns-then-is_frame
returns-then-is_frame g c =
    let found = sym (rw c.in-Some.is at c.step.ensures) in
    let ends = sym c.is_frame.ensures ∙ c.if-is_frame.true in
    queueing_ends c.args.script.now c.args.last c.steps.number _ _ _ c.args.window.now c.steps.window c.queue.new.self c.in-Some.step.now c.kind_at-kind.result c.steps.invariant found ends c.kind_at-kind.ensures c.in_ok-queue.ensures.ok

pub returns-in_default : goal.returns-in_default
returns-in_default g c =
    let none = sym (rw c.in_default.is at c.step.ensures) in
    queueing_past c.args.script.now c.args.last c.steps.number _ _ c.args.window.now c.steps.window c.steps.invariant none
