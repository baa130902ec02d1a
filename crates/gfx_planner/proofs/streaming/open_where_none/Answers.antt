use Rattle.std.proofs.Common.{◌≡◌, true, false, rules}
use Rattle.std.proofs.lemmas.Result.{err_from_is_err_and}
use Rattle.std.specs.Option.{is_some}
use Rattle.gfx_planner.proofs.Frames.{already_open, opened_now, not_opened}
use Rattle.gfx_planner.proofs.streaming.open_where_none.Goals as goal

pub returns-then-is_in_frame : goal.returns-then-is_in_frame
returns-then-is_in_frame c =
    let within : is_some c.args.planner.now.server.state.frame ≡ true = search rules in
    already_open c.args.planner.now c.args.out.now c.requires.fresh within

pub returns-in_err-open_frame : goal.returns-in_err-open_frame
returns-in_err-open_frame c =
    let p = err_from_is_err_and c.from_residual.result c.from_residual.ensures.1 in
    let between : is_some c.args.planner.now.server.state.frame ≡ false = search rules in
    let s = c.in_err-open_frame.ensures.sends in
    rw p.1 (not_opened c.open_frame.new.self c.args.out.now c.open_frame.new.out c.args.planner.now.server between s.0)

pub returns : goal.returns
returns c =
    let between : is_some c.args.planner.now.server.state.frame ≡ false = search rules in
    let s = c.in_ok-open_frame.ensures.sends in
    opened_now c.open_frame.new.self c.args.out.now c.open_frame.new.out c.args.planner.now.server between s.1
