use Rattle.std.proofs.Common.{◌≡◌, ◌+◌, ◌<◌, ◌^◌, Some, Ok, subst, rules}
use Rattle.std.proofs.lemmas.Result.{err_from_is_err_and}
use Rattle.gfx_script.specs.Kinds.{as_kind}
use Rattle.gfx_script.specs.Script.{step_at}
use Rattle.gfx_planner.specs.Allowed.{kinded_at}
use Rattle.gfx_planner.specs.Planned.{PutsStep}
use Rattle.gfx_planner.proofs.Calls.{is_kinded}
use Rattle.gfx_planner.proofs.Frames.{front_fails, put_fails, put_and_closed, allowed_in_frame, in_frame, still_in_frame}
use Rattle.gfx_planner.proofs.streaming.put_in_frame.Goals as goal

pub returns-in_err-open_where_none : goal.returns-in_err-open_where_none
returns-in_err-open_where_none c =
    let p = err_from_is_err_and c.from_residual.result c.from_residual.ensures.1 in
    rw p.1 (front_fails c.args.script.now p.0 c.args.planner.now.server c.open_where_none.new.planner c.args.out.now c.open_where_none.new.out _ c.requires.allowed c.in_err-open_where_none.ensures)

pub put-requires-clause-inside : goal.put-requires-clause-inside
put-requires-clause-inside c =
    let few : c.args.planner.now.server.frames + 1 < 2 ^ 32 = search rules in
    λ fresh. in_frame c.args.planner.now.server c.open_where_none.new.planner few c.requires.keeps c.in_ok-open_where_none.ensures.0

pub put-requires-clause-allowed : goal.put-requires-clause-allowed
put-requires-clause-allowed c =
    let few : c.args.planner.now.server.frames + 1 < 2 ^ 32 = search rules in
    λ fresh. allowed_in_frame c.args.script.now c.args.planner.now.server c.open_where_none.new.planner (kinded_at c.args.script.now.steps c.args.step c.args.kind) few c.requires.keeps c.in_ok-open_where_none.ensures.0 c.requires.allowed

pub returns-in_err-put : goal.returns-in_err-put
returns-in_err-put c =
    let p = err_from_is_err_and c.from_residual-in_err-put.result c.from_residual-in_err-put.ensures.1 in
    rw p.1 (put_fails c.args.script.now p.0 c.in_err-put.field-0.0 c.args.planner.now.server c.open_where_none.new.planner c.put.new.self c.args.out.now c.open_where_none.new.out c.put.new.out _
    c.in_ok-open_where_none.ensures c.in_err-put.ensures)

pub close_behind-requires-clause-inside : goal.close_behind-requires-clause-inside
close_behind-requires-clause-inside c =
    let few : c.args.planner.now.server.frames + 1 < 2 ^ 32 = search rules in
    let one = kinded_at c.args.script.now.steps c.args.step c.args.kind in
    let opened = c.in_ok-open_where_none.ensures.0 in
    still_in_frame c.args.script.now c.open_where_none.new.planner c.put.new.self c.open_where_none.new.out c.put.new.out one (in_frame c.args.planner.now.server c.open_where_none.new.planner few c.requires.keeps opened)
    (allowed_in_frame c.args.script.now c.args.planner.now.server c.open_where_none.new.planner one few c.requires.keeps opened c.requires.allowed) c.in_ok-put.ensures

pub returns : goal.returns
returns c =
    let found : Some c.in-Some.step.now ≡ step_at c.args.script.now.steps c.args.step = rw c.in-Some.is at c.step.ensures in
    let put = subst (PutsStep c.args.script.now (Ok tt) c.open_where_none.new.planner c.put.new.self c.open_where_none.new.out c.put.new.out) (is_kinded c.args.script.now.steps c.args.step c.args.kind c.in-Some.step.now found) c.in_ok-put.ensures in
    rw (← found) (put_and_closed c.args.script.now c.close_behind.result c.args.planner.now.server c.open_where_none.new.planner c.put.new.self c.close_behind.new.planner
    c.args.out.now c.open_where_none.new.out c.put.new.out c.close_behind.new.out (as_kind c.args.kind c.in-Some.step.now) c.in_ok-open_where_none.ensures put c.close_behind.ensures)
