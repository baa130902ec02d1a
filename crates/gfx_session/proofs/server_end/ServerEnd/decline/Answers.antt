use Rattle.gfx_session.proofs.Messages.{refuses_offer, declines_offer}
use Rattle.gfx_session.proofs.server_end.ServerEnd.decline.Goals as goal

pub returns-then-not-self : goal.returns-then-not-self
returns-then-not-self c = λ has. refuses_offer c.args.self.now c.args.out.now has c.if-not-self.true

pub returns : goal.returns
returns c = λ has. declines_offer c.args.self.now c.args.out.now c.put_empty_reply.new.out has c.if-not-self.false c.in_ok-put_empty_reply.ensures.ok
