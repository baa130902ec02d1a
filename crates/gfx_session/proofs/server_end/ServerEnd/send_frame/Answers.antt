use Rattle.std.proofs.Common.{◌∙◌, sym}
use Rattle.gfx_session.proofs.Framing.{has_flown}
use Rattle.gfx_session.proofs.server_end.ServerEnd.send_frame.Goals as goal

pub put_frame-requires-clause-may : goal.put_frame-requires-clause-may
put_frame-requires-clause-may c = c.requires.may (sym c.can_send.ensures ∙ c.if-not-can_send.false)

pub returns : goal.returns
returns c =
    let p = c.in_ok-frame.ensures in (
      sym c.can_send.ensures ∙ c.if-not-can_send.false,
      has_flown c.args.self.now c.watch_frame.new.self c.put_frame.new.planner _ c.in_ok-frame.frame p.0 p.1.0 c.in_ok-watch_frame.ensures,
      p.1.1,
    )
