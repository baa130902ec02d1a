use Rattle.std.proofs.Common.{◌≡◌, ◌++◌, Ok, refl, rules}
use Rattle.gfx_pdu.specs.Spelling.{spelling}
use Rattle.gfx_segment.specs.Framing.{wrapped}
use Rattle.gfx_state.specs.Step.{step}
use Rattle.gfx_planner.proofs.Effects.{sent_and_accepted, sent_whole}
use Rattle.gfx_planner.proofs.sender.Sender.send_one.Goals as goal
use Rattle.gfx_planner.proofs.sender.Sender.send_one.Goals.{in-Ok, in-Err-Memory}

pub returns : goal.returns
returns c =
    let wrote : c.put_out.new.out ≡ c.args.out.now ++ wrapped (spelling c.args.pdu.now) = search rules in
    elim c.match-apply.branch [
      | in-Ok w ↦
          let stepped : step c.args.self.now c.args.pdu.now ≡ Ok c.apply.new.self = rw (← c.put_out.ensures.state, ← c.self.view_is) (rw w.in-Ok.is at c.apply.ensures.applies) in
          rw w.result-is (sent_and_accepted c.args.self.now c.apply.new.self c.args.out.now c.put_out.new.out (spelling c.args.pdu.now) c.args.pdu.now stepped refl wrote)
      | in-Err-Memory w ↦ rw w.result-is (sent_whole c.args.out.now c.put_out.new.out (spelling c.args.pdu.now) c.args.pdu.now refl wrote)
    ]
