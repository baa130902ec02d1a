use Rattle.std.proofs.Common.{arith}
use Rattle.gfx_schedule.specs.Starts.{from_kept}
use Rattle.gfx_schedule.proofs.Importing.{import_may_begin}
use Rattle.gfx_session.proofs.TurnLemmas.{starts, is_started, last_started}
use Rattle.gfx_session.proofs.session.Session.with_kept.Goals as goal

pub client_with-requires : goal.client_with-requires
client_with-requires c = omega (arith, c.requires.accepted.accepted.few_offers)

pub returns-in-Ok-clause-stands : goal.returns-in-Ok-clause-stands
returns-in-Ok-clause-stands c = λ kinded fits.
    starts c.begun.result c.in-Ok.end c.in_ok-other.other c.new.result (from_kept c.args.script c.args.server.now c.args.client.now) c.args.script kinded c.begun.ensures c.in-Ok.ensures.is.1 (c.in-Ok.ensures.stands kinded fits)
    c.in_ok-other.ensures.offers c.in_ok-other.ensures.stands c.in_ok-other.ensures.drained c.new.ensures

pub returns-in-Ok-clause-last : goal.returns-in-Ok-clause-last
returns-in-Ok-clause-last c = last_started c.begun.result c.in-Ok.end c.in_ok-other.other c.new.result (from_kept c.args.script c.args.server.now c.args.client.now) c.args.script c.begun.ensures c.in-Ok.ensures.stands

pub returns-in-Ok-clause-is : goal.returns-in-Ok-clause-is
returns-in-Ok-clause-is c =
    is_started c.begun.result c.in-Ok.end c.in_ok-other.other c.new.result (from_kept c.args.script c.args.server.now c.args.client.now) c.args.script c.args.digests c.begun.ensures (_, c.in-Ok.ensures.is.0) c.in-Ok.ensures.is.1 c.in-Ok.ensures.is.3
    (λ kinded fits. import_may_begin c.args.script c.args.server.now c.args.client.now kinded c.requires fits)
    (λ kinded fits. starts c.begun.result c.in-Ok.end c.in_ok-other.other c.new.result (from_kept c.args.script c.args.server.now c.args.client.now) c.args.script kinded c.begun.ensures c.in-Ok.ensures.is.1
    (c.in-Ok.ensures.stands kinded fits) c.in_ok-other.ensures.offers c.in_ok-other.ensures.stands c.in_ok-other.ensures.drained c.new.ensures)
