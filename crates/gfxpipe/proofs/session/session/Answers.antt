use Rattle.std.proofs.Common.{Ok}
use Rattle.std.proofs.lemmas.Result.{err_from_is_err_and}
use Rattle.gfx_base.proofs.Streams.{Gains_none}
use Rattle.gfx_schedule.specs.Starts.{from_nothing}
use Rattle.gfxpipe.specs.Due.{scratch_in}
use Rattle.gfxpipe.specs.Rules.{script_input}
use Rattle.gfxpipe.specs.Sessions.{from_scratch}
use Rattle.gfxpipe.proofs.ReadingScripts.{is_good}
use Rattle.gfxpipe.proofs.Sessions.{begun_as, from_script, not_accepted, not_played, played_out, told}
use Rattle.gfxpipe.proofs.session.session.Goals as goal

pub new-requires : goal.new-requires
new-requires g c = is_good c.args.limit _ c.in-Ok.script (rw c.in-Ok.is at c.in_ok-script.ensures)

pub returns-in_err-begun-in-Ok : goal.returns-in_err-begun-in-Ok
returns-in_err-begun-in-Ok g c =
    let p = err_from_is_err_and c.from_residual-in_err-begun-in-Ok.result c.from_residual-in_err-begun-in-Ok.ensures.1 in
    let reads = from_script (Ok c.in-Ok.script) c.args.limit _ (rw c.in-Ok.is at c.in_ok-script.ensures) in
    rw (p.1, p.2) (not_played script_input scratch_in _ _ c.args.limit _ _ (from_scratch c.in-Ok.script) reads (Gains_none _ _))

pub returns-in_err-session-in-Ok : goal.returns-in_err-session-in-Ok
returns-in_err-session-in-Ok g c =
    let p = err_from_is_err_and c.from_residual-in_err-session-in-Ok.result c.from_residual-in_err-session-in-Ok.ensures.1 in
    let good = is_good c.args.limit _ c.in-Ok.script (rw c.in-Ok.is at c.in_ok-script.ensures) in
    let reads = from_script (Ok c.in-Ok.script) c.args.limit _ (rw c.in-Ok.is at c.in_ok-script.ensures) in
    let begun = begun_as c.in-Ok.script c.in_ok-begun-in-Ok.begun good c.in_ok-begun-in-Ok.ensures.is.1 c.in_ok-begun-in-Ok.ensures.stands in
    rw (p.1, p.2) (played_out script_input scratch_in _ _ c.args.limit _ _ (from_nothing c.in-Ok.script) c.in-Ok.script c.in_ok-begun-in-Ok.begun c.in_err-session-in-Ok.field-0.0 reads
    c.in_ok-begun-in-Ok.ensures.is.1 begun c.in_err-session-in-Ok.ensures)

pub returns-in_ok-session-in-Ok : goal.returns-in_ok-session-in-Ok
returns-in_ok-session-in-Ok g c =
    let good = is_good c.args.limit _ c.in-Ok.script (rw c.in-Ok.is at c.in_ok-script.ensures) in
    let reads = from_script (Ok c.in-Ok.script) c.args.limit _ (rw c.in-Ok.is at c.in_ok-script.ensures) in
    let begun = begun_as c.in-Ok.script c.in_ok-begun-in-Ok.begun good c.in_ok-begun-in-Ok.ensures.is.1 c.in_ok-begun-in-Ok.ensures.stands in
    told script_input scratch_in _ _ c.args.limit _ _ (from_nothing c.in-Ok.script) c.in-Ok.script c.in_ok-begun-in-Ok.begun c.in_ok-session-in-Ok.session reads
    c.in_ok-begun-in-Ok.ensures.is.1 begun c.in_ok-session-in-Ok.ensures

pub returns-in-Err : goal.returns-in-Err
returns-in-Err g c = not_accepted c.in-Err.ending _ c.args.limit _ _ _ (rw c.in-Err.is at c.in_ok-script.ensures)
