use Rattle.std.proofs.Common.{◌≡◌, Some}
use Rattle.std.proofs.lemmas.Result.{err_from_is_err_and}
use Rattle.gfx_script.specs.Kinds.{as_kind}
use Rattle.gfx_script.specs.Script.{step_at}
use Rattle.gfx_planner.proofs.ClearPaintLemmas.{may_paint_clear}
use Rattle.gfx_planner.proofs.FittingWrites.{fitting}
use Rattle.gfx_planner.proofs.PassesSending.{may_go}
use Rattle.gfx_planner.proofs.Steps.{can_be_sent, may_send_made}
use Rattle.gfx_planner.proofs.Calls.{planned, is_allowed, puts_made, puts_made_front}
use Rattle.gfx_planner.proofs.planner.Planner.put.Goals as goal

pub send_step-requires-clause-possible : goal.send_step-requires-clause-possible
send_step-requires-clause-possible c =
    let found : Some c.in-Some.step.now ≡ step_at c.args.script.now.steps c.args.step = rw c.in-Some.is at c.step.ensures in
    let allowed = rw (← c.self.view_is) at c.requires.allowed in
    can_be_sent c.args.script.now (planned c.self.inside.sender c.self.inside.plan c.self.inside.passes c.self.inside.frames c.self.inside.spent).server (as_kind c.args.kind c.in-Some.step.now)
    (is_allowed c.args.script.now _ c.args.step c.args.kind c.in-Some.step.now found (allowed c.if-self.false))

pub send_step-requires-clause-accepted : goal.send_step-requires-clause-accepted
send_step-requires-clause-accepted c =
    let found : Some c.in-Some.step.now ≡ step_at c.args.script.now.steps c.args.step = rw c.in-Some.is at c.step.ensures in
    let allowed = rw (← c.self.view_is) at c.requires.allowed in
    may_send_made c.args.script.now (planned c.self.inside.sender c.self.inside.plan c.self.inside.passes c.self.inside.frames c.self.inside.spent).server (as_kind c.args.kind c.in-Some.step.now)
    (is_allowed c.args.script.now _ c.args.step c.args.kind c.in-Some.step.now found (allowed c.if-self.false))

pub send_step-requires-clause-paint : goal.send_step-requires-clause-paint
send_step-requires-clause-paint c =
    let found : Some c.in-Some.step.now ≡ step_at c.args.script.now.steps c.args.step = rw c.in-Some.is at c.step.ensures in
    let allowed = rw (← c.self.view_is) at c.requires.allowed in
    may_paint_clear c.args.script.now (planned c.self.inside.sender c.self.inside.plan c.self.inside.passes c.self.inside.frames c.self.inside.spent).server c.args.kind c.in-Some.step.now
    (is_allowed c.args.script.now _ c.args.step c.args.kind c.in-Some.step.now found (allowed c.if-self.false))

pub send_step-requires-clause-tiles : goal.send_step-requires-clause-tiles
send_step-requires-clause-tiles c =
    let found : Some c.in-Some.step.now ≡ step_at c.args.script.now.steps c.args.step = rw c.in-Some.is at c.step.ensures in
    let allowed = rw (← c.self.view_is) at c.requires.allowed in
    may_go c.args.script.now (planned c.self.inside.sender c.self.inside.plan c.self.inside.passes c.self.inside.frames c.self.inside.spent).server c.args.kind c.in-Some.step.now
    (is_allowed c.args.script.now _ c.args.step c.args.kind c.in-Some.step.now found (allowed c.if-self.false))

pub send_step-requires-clause-plan : goal.send_step-requires-clause-plan
send_step-requires-clause-plan c =
    let found : Some c.in-Some.step.now ≡ step_at c.args.script.now.steps c.args.step = rw c.in-Some.is at c.step.ensures in
    let allowed = rw (← c.self.view_is) at c.requires.allowed in
    (is_allowed c.args.script.now _ c.args.step c.args.kind c.in-Some.step.now found (allowed c.if-self.false)).holds.bitmaps.fits_cache

pub send_step-requires-clause-fits : goal.send_step-requires-clause-fits
send_step-requires-clause-fits c =
    let found : Some c.in-Some.step.now ≡ step_at c.args.script.now.steps c.args.step = rw c.in-Some.is at c.step.ensures in
    let allowed = rw (← c.self.view_is) at c.requires.allowed in
    fitting c.args.script.now (planned c.self.inside.sender c.self.inside.plan c.self.inside.passes c.self.inside.frames c.self.inside.spent).server c.args.kind c.in-Some.step.now
    (is_allowed c.args.script.now _ c.args.step c.args.kind c.in-Some.step.now found (allowed c.if-self.false))

pub returns-in_err-send_step : goal.returns-in_err-send_step
returns-in_err-send_step c =
    let p = err_from_is_err_and c.from_residual.result c.from_residual.ensures.1 in
    let found : Some c.in-Some.step.now ≡ step_at c.args.script.now.steps c.args.step = rw c.in-Some.is at c.step.ensures in
    rw (p.1, ← found, ← c.self.view_is) (puts_made_front c.args.script.now p.0 c.self.inside.sender c.send_step.new.sender c.self.inside.plan c.send_step.new.plan c.self.inside.passes c.send_step.new.passes c.self.inside.frames c.self.inside.spent
    (as_kind c.args.kind c.in-Some.step.now) c.args.out.now c.send_step.new.out c.if-self.false c.in_err-send_step.ensures.made)

pub returns : goal.returns
returns c =
    let found : Some c.in-Some.step.now ≡ step_at c.args.script.now.steps c.args.step = rw c.in-Some.is at c.step.ensures in
    let allowed = rw (← c.self.view_is) at c.requires.allowed in
    rw (← found, ← c.self.view_is) (puts_made c.args.script.now c.self.inside.sender c.send_step.new.sender c.self.inside.plan c.send_step.new.plan c.self.inside.passes c.send_step.new.passes c.self.inside.frames c.self.inside.spent
    (as_kind c.args.kind c.in-Some.step.now) c.args.out.now c.send_step.new.out c.if-self.false
    (is_allowed c.args.script.now _ c.args.step c.args.kind c.in-Some.step.now found (allowed c.if-self.false)) c.in_ok-send_step.ensures.made c.in_ok-send_step.ensures.passes)
