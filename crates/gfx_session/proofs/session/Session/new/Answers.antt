use Rattle.gfx_schedule.specs.Starts.{from_nothing}
use Rattle.gfx_schedule.proofs.Turns.{may_begin}
use Rattle.gfx_session.proofs.TurnLemmas.{starts, is_started, last_started}
use Rattle.gfx_session.proofs.session.Session.new.Goals as goal

pub returns-in-Ok-clause-stands : goal.returns-in-Ok-clause-stands
returns-in-Ok-clause-stands c = λ kinded fits.
    starts c.begun.result c.in-Ok.end c.in_ok-said.said.0 c.in_ok-said.said.1 (from_nothing c.args.script) c.args.script kinded c.begun.ensures c.in-Ok.ensures.is.1 (c.in-Ok.ensures.stands kinded fits)
    c.in_ok-said.ensures.offers c.in_ok-said.ensures.stands c.in_ok-said.ensures.drained c.in_ok-said.ensures.up

pub returns-in-Ok-clause-last : goal.returns-in-Ok-clause-last
returns-in-Ok-clause-last c = last_started c.begun.result c.in-Ok.end c.in_ok-said.said.0 c.in_ok-said.said.1 (from_nothing c.args.script) c.args.script c.begun.ensures c.in-Ok.ensures.stands

pub returns-in-Ok-clause-is : goal.returns-in-Ok-clause-is
returns-in-Ok-clause-is c =
    is_started c.begun.result c.in-Ok.end c.in_ok-said.said.0 c.in_ok-said.said.1 (from_nothing c.args.script) c.args.script c.args.digests c.begun.ensures (_, c.in-Ok.ensures.is.0) c.in-Ok.ensures.is.1 c.in-Ok.ensures.is.3
    (λ kinded fits. may_begin c.args.script kinded c.requires fits)
    (λ kinded fits. starts c.begun.result c.in-Ok.end c.in_ok-said.said.0 c.in_ok-said.said.1 (from_nothing c.args.script) c.args.script kinded c.begun.ensures c.in-Ok.ensures.is.1 (c.in-Ok.ensures.stands kinded fits)
    c.in_ok-said.ensures.offers c.in_ok-said.ensures.stands c.in_ok-said.ensures.drained c.in_ok-said.ensures.up)
