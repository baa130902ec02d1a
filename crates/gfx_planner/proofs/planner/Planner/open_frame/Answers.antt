use Rattle.std.proofs.Common.{◌≡◌, false, sym, subst, rules}
use Rattle.std.specs.Result.{IsOk}
use Rattle.gfx_state.specs.Sending.{IsCarried}
use Rattle.gfx_state.specs.Step.{step}
use Rattle.gfx_planner.specs.Planned.{Planned}
use Rattle.gfx_planner.specs.Wire.{frame_start}
use Rattle.gfx_planner.proofs.Calls.{may_open, opens}
use Rattle.gfx_planner.proofs.planner.Planner.open_frame.Goals as goal

pub send_one-requires-clause-carried : goal.send_one-requires-clause-carried
send_one-requires-clause-carried c =
    let fresh : c.args.self.now.spent ≡ false = search rules in
    subst (λ (p : Planned). IsCarried (frame_start p.server)) (sym c.self.view_is) (may_open c.args.self.now.server (c.requires.few fresh) (c.requires.between fresh)).0

pub send_one-requires-clause-accepted : goal.send_one-requires-clause-accepted
send_one-requires-clause-accepted c =
    let fresh : c.args.self.now.spent ≡ false = search rules in
    subst (λ (p : Planned). IsOk (step p.server.state (frame_start p.server))) (sym c.self.view_is) (may_open c.args.self.now.server (c.requires.few fresh) (c.requires.between fresh)).1

pub returns-clause-sends : goal.returns-clause-sends
returns-clause-sends c =
    rw (← c.self.view_is) (opens 0 c.self.inside.sender c.send_one.new.self c.self.inside.plan c.self.inside.passes c.self.inside.frames c.self.inside.spent c.args.out.now c.send_one.new.out c.if-self.false c.in_ok-send_one.ensures)
