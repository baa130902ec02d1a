use Rattle.std.proofs.Common.{◌∙◌, sym, arith}
use Rattle.std.proofs.lemmas.Result.{err_from_is_err_and}
use Rattle.gfxpipe.proofs.Planning.{is_past, is_within, planning_none, may_put_next, allowed_next, plans_more, planning_more, planned_to, asked_within}
use Rattle.gfxpipe.proofs.stream.plan_frame.Goals as goal

pub steps-init : goal.steps-init
steps-init g c = λ begun put. planning_none c.args.script.now begun _ c.args.first c.args.planner.now c.args.out.now c.requires.there put

pub put_in_frame-requires-clause-keeps : goal.put_in_frame-requires-clause-keeps
put_in_frame-requires-clause-keeps g c =
    let found = sym (rw c.in-Some.is at c.step.ensures) in
    let p = c.steps.invariant c.requires.goes_on.choosers c.requires.goes_on.has_put in
    (may_put_next c.args.script.now _ _ _ c.steps.number c.steps.planner c.in-Some.step.now c.kind_at-kind.result c.requires.accepted found p.has_put c.kind_at-kind.ensures).keeps

pub put_in_frame-requires-clause-few : goal.put_in_frame-requires-clause-few
put_in_frame-requires-clause-few g c =
    let found = sym (rw c.in-Some.is at c.step.ensures) in
    let p = c.steps.invariant c.requires.goes_on.choosers c.requires.goes_on.has_put in
    (may_put_next c.args.script.now _ _ _ c.steps.number c.steps.planner c.in-Some.step.now c.kind_at-kind.result c.requires.accepted found p.has_put c.kind_at-kind.ensures).few

pub put_in_frame-requires-clause-allowed : goal.put_in_frame-requires-clause-allowed
put_in_frame-requires-clause-allowed g c =
    let found = sym (rw c.in-Some.is at c.step.ensures) in
    let p = c.steps.invariant c.requires.goes_on.choosers c.requires.goes_on.has_put in
    allowed_next c.args.script.now _ _ _ c.steps.number c.steps.planner c.in-Some.step.now c.kind_at-kind.result c.requires.accepted found p.has_put c.kind_at-kind.ensures

pub returns-in_err-put_in_frame : goal.returns-in_err-put_in_frame
returns-in_err-put_in_frame g c = λ begun put.
    let found = sym (rw c.in-Some.is at c.step.ensures) in
    let p = err_from_is_err_and c.from_residual.result c.from_residual.ensures.1 in
    rw p.1 (asked_within c.args.script.now begun _ _ c.args.first c.steps.number c.steps.planner c.args.out.now c.steps.out c.in-Some.step.now c.kind_at-kind.result
    (c.steps.invariant begun put) found c.kind_at-kind.ensures)

pub steps-smaller : goal.steps-smaller
steps-smaller g c =
    let found = sym (rw c.in-Some.is at c.step.ensures) in
    let within = (is_within c.args.script.now.steps c.steps.number c.in-Some.step.now found).1 in
    omega arith

pub steps-preserved : goal.steps-preserved
steps-preserved g c = λ begun put.
    let found = sym (rw c.in-Some.is at c.step.ensures) in
    let other = sym c.is_frame.ensures ∙ c.if-is_frame.false in
    planning_more c.args.script.now begun _ _ c.args.first c.steps.number c.steps.planner c.put_in_frame.new.planner c.args.out.now c.steps.out c.put_in_frame.new.out
    c.in-Some.step.now c.kind_at-kind.result (c.steps.invariant begun put) found c.kind_at-kind.ensures c.in_ok-put_in_frame.ensures other

pub returns-then-is_frame : goal.returns-then-is_frame
returns-then-is_frame g c = λ begun put.
    let found = sym (rw c.in-Some.is at c.step.ensures) in
    plans_more c.args.script.now begun _ _ c.args.first c.steps.number c.steps.planner c.put_in_frame.new.planner c.args.out.now c.steps.out c.put_in_frame.new.out
    c.in-Some.step.now c.kind_at-kind.result (c.steps.invariant begun put) found c.kind_at-kind.ensures c.in_ok-put_in_frame.ensures

pub returns-in_default : goal.returns-in_default
returns-in_default g c = λ begun put.
    let none = sym (rw c.in_default.is at c.step.ensures) in
    let p = c.steps.invariant begun put in
    let low = p.further in
    let past = is_past c.args.script.now.steps c.steps.number (let from = c.requires.from in omega arith) none in
    planned_to c.args.script.now begun _ c.args.first c.steps.number c.steps.planner c.args.out.now c.steps.out p (let there = c.requires.there in omega arith)
