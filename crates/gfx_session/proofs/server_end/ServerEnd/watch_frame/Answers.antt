use Rattle.std.proofs.Common.{◌∙◌, refl, sym}
use Rattle.gfx_session.proofs.Framing.{unwatched_frame, kept_frame}
use Rattle.gfx_session.proofs.server_end.ServerEnd.watch_frame.Goals as goal

pub returns-then-is_suspended : goal.returns-then-is_suspended
returns-then-is_suspended c =
    unwatched_frame c.send.result c.args.self.now c.send.new.self c.args.frame (sym c.is_suspended.ensures ∙ c.if-is_suspended.true) c.send.ensures.ok c.send.ensures.err

pub returns : goal.returns
returns c = (
  refl,
  c.in_default.ensures.ok,
  kept_frame c.args.self.now c.push_back.new.self.items c.noted_of-state.result (sym c.is_suspended.ensures ∙ c.if-is_suspended.false) c.in_ok-push_back.ensures.items c.noted_of-state.ensures,
)
