use Rattle.std.proofs.Common.{◌≡◌, true, false, is_some, rules}
use Rattle.std.proofs.lemmas.Result.{err_from_is_err_and}
use Rattle.gfx_script.specs.Script.{step_at}
use Rattle.gfxpipe.proofs.Planning.{streaming_none, streaming_more, streaming_fails, streaming_starved, streaming_ends, may_go_on, is_there, is_absent}
use Rattle.gfxpipe.proofs.stream.write_frames.Goals as goal

pub frames-init : goal.frames-init
frames-init g c = rw (c.requires.begun, c.new-frame.ensures) (streaming_none c.args.script.now _ _ _)

pub plan_frame-requires-clause-there : goal.plan_frame-requires-clause-there
plan_frame-requires-clause-there g c =
    let some : is_some (step_at c.args.script.now.steps c.frames.next) ≡ true = search rules in
    is_there c.args.script.now.steps c.frames.next some

pub plan_frame-requires-clause-goes_on : goal.plan_frame-requires-clause-goes_on
plan_frame-requires-clause-goes_on g c = may_go_on c.args.script.now _ _ c.frames.next c.frames.planner c.frames.frame _ c.frames.invariant

pub returns-in_err-next : goal.returns-in_err-next
returns-in_err-next g c =
    let p = err_from_is_err_and c.from_residual.result c.from_residual.ensures.1 in
    rw (p.1, p.2) (streaming_starved c.args.script.now _ _ _ c.frames.next c.frames.planner c.frames.frame _ c.frames.invariant (c.in_err-next.ensures _ c.frames.invariant.has_put))

pub returns-in_default : goal.returns-in_default
returns-in_default g c =
    streaming_fails c.args.script.now _ _ _ c.frames.next c.in_ok-next.next c.frames.planner c.plan_frame.new.planner c.frames.frame c.plan_frame.new.out _ _ _ _ _ _
    c.frames.invariant (c.in_ok-next.ensures _ c.frames.invariant.has_put) (rw c.as_slice.ensures at c.in_default.ensures)

pub frames-preserved : goal.frames-preserved
frames-preserved g c =
    rw c.truncate.ensures (streaming_more c.args.script.now _ _ _ c.frames.next c.in_ok-next.next c.frames.planner c.plan_frame.new.planner c.frames.frame c.plan_frame.new.out _ _ _ _ _ _
    c.frames.invariant (c.in_ok-next.ensures _ c.frames.invariant.has_put) (rw c.as_slice.ensures at c.in-Ok.ensures))

pub returns : goal.returns
returns g c =
    let none : is_some (step_at c.args.script.now.steps c.frames.next) ≡ false = search rules in
    streaming_ends c.args.script.now _ _ c.frames.next c.frames.planner c.frames.frame _ c.frames.invariant (is_absent (step_at c.args.script.now.steps c.frames.next) none)
