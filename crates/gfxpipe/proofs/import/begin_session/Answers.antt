use Rattle.gfxpipe.proofs.Importing.{imported_begins, may_import}
use Rattle.gfxpipe.proofs.import.begin_session.Goals as goal

pub with_kept-requires : goal.with_kept-requires
with_kept-requires c = may_import c.args.server.now c.args.client.now c.in-Ok.script c.requires c.in-Ok.ensures.accepted c.in-Ok.ensures.start

pub returns-in_ok-session-in-Ok : goal.returns-in_ok-session-in-Ok
returns-in_ok-session-in-Ok c =
    let may = may_import c.args.server.now c.args.client.now c.in-Ok.script c.requires c.in-Ok.ensures.accepted c.in-Ok.ensures.start in
    imported_begins c.args.server.now c.args.client.now c.args.text.now c.in-Ok.script c.in_ok-session-in-Ok.session may c.in-Ok.ensures.exact c.in_ok-session-in-Ok.ensures.is.0 c.in_ok-session-in-Ok.ensures.is.1
    c.in_ok-session-in-Ok.ensures.is.2 c.in_ok-session-in-Ok.ensures.last c.in_ok-session-in-Ok.ensures.stands
