use Rattle.std.proofs.lemmas.Result.{err_from_is_err_and}
use Rattle.gfxpipe.proofs.Importing.{kept_agree, kept_begins, kept_refused, kept_too_long, kept_unread}
use Rattle.gfxpipe.proofs.import.read_session.Goals as goal

pub returns-in_err-server : goal.returns-in_err-server
returns-in_err-server g c =
    let p = err_from_is_err_and c.from_residual.result c.from_residual.ensures.1 in
    rw (p.1, p.2) (kept_unread c.in_err-server.field-0.0 c.args.limit _ c.in_err-server.ensures)

pub begin_session-requires : goal.begin_session-requires
begin_session-requires g c = kept_agree c.args.limit _ c.in-Whole.server c.in-Whole.client c.in-Whole.script (rw c.in-Whole.is at c.in_ok-server.ensures)

pub returns-in-Whole : goal.returns-in-Whole
returns-in-Whole g c =
    kept_begins c.begin_session.result c.args.limit _ c.in-Whole.server c.in-Whole.client c.in-Whole.script (rw c.in-Whole.is at c.in_ok-server.ensures) (rw c.as_slice.ensures at c.begin_session.ensures)

pub returns-in-TooLong : goal.returns-in-TooLong
returns-in-TooLong g c = kept_too_long c.args.limit _ (rw c.in-TooLong.is at c.in_ok-server.ensures)

pub returns-in-Refused : goal.returns-in-Refused
returns-in-Refused g c = kept_refused c.in-Refused.refusal c.args.limit _ (rw c.in-Refused.is at c.in_ok-server.ensures)
