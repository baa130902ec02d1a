use Rattle.gfx_session.proofs.TurnLemmas.{server_within}
use Rattle.gfx_session.proofs.session.Session.has_ended.Goals as goal

pub has_served-requires-clause-within : goal.has_served-requires-clause-within
has_served-requires-clause-within c = server_within c.args.self.now c.requires.is c.requires.fresh

pub has_served-requires-clause-few : goal.has_served-requires-clause-few
has_served-requires-clause-few c = c.requires.is.server.1.good.few
