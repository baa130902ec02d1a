use Rattle.std.proofs.Common.{◌∙◌, sym, arith}
use Rattle.std.proofs.lemmas.Result.{err_from_is_err_and}
use Rattle.gfx_session.proofs.Framing.{going_opened, none_put, not_opened, walks_past, walk_allowed, walks_on, walk_fails, walk_ends, walk_unended}
use Rattle.gfx_session.proofs.server_end.serving.put_frame.Goals as goal

pub returns-in_err-left_out : goal.returns-in_err-left_out
returns-in_err-left_out c =
    let p = err_from_is_err_and c.from_residual.result c.from_residual.ensures.1 in
    rw p.1 (none_put c.args.script.now c.args.planner.now.server c.args.window.now c.args.out.now)

pub returns-in_err-frame : goal.returns-in_err-frame
returns-in_err-frame c =
    let p = err_from_is_err_and c.from_residual-in_err-frame.result c.from_residual-in_err-frame.ensures.1 in
    let s = c.in_err-frame.ensures.sends in
    rw p.1 (not_opened c.args.script.now c.args.planner.now.server c.args.window.now c.open_frame.new.self c.args.out.now c.open_frame.new.out s.0)

pub places-init : goal.places-init
places-init c =
    let s = c.in_ok-frame.ensures.sends in
    going_opened c.args.script.now c.args.planner.now.server c.args.window.now c.open_frame.new.self c.args.out.now c.open_frame.new.out c.requires.may s.1

pub places-preserved-then-superseded : goal.places-preserved-then-superseded
places-preserved-then-superseded c =
    walks_past c.args.script.now c.args.window.now c.places.place c.args.planner.now.server c.places.planner c.args.out.now c.places.out (omega arith) (sym c.superseded.ensures ∙ c.if-superseded.true) c.places.invariant

pub put-requires-clause-inside : goal.put-requires-clause-inside
put-requires-clause-inside c = λ fresh. c.places.invariant.within

pub put-requires-clause-allowed : goal.put-requires-clause-allowed
put-requires-clause-allowed c =
    λ fresh. walk_allowed c.args.script.now c.args.window.now c.places.place c.item-item.result c.args.planner.now.server c.args.planner.now.server c.places.planner c.args.out.now c.places.out
    c.requires.may c.item-item.ensures (sym c.superseded.ensures ∙ c.if-superseded.false) c.places.invariant

pub returns-in_err-put : goal.returns-in_err-put
returns-in_err-put c =
    let p = err_from_is_err_and c.from_residual-in_err-put.result c.from_residual-in_err-put.ensures.1 in
    rw p.1 (walk_fails c.args.script.now c.args.window.now c.places.place c.item-item.result c.args.planner.now.server c.args.planner.now.server c.places.planner c.put.new.self c.args.out.now c.places.out c.put.new.out c.in_err-put.field-0.0
    c.requires.may c.item-item.ensures (sym c.superseded.ensures ∙ c.if-superseded.false) c.places.invariant c.in_err-put.ensures)

pub places-preserved : goal.places-preserved
places-preserved c =
    walks_on c.args.script.now c.args.window.now c.places.place c.item-item.result c.args.planner.now.server c.args.planner.now.server c.places.planner c.put.new.self c.args.out.now c.places.out c.put.new.out
    c.requires.may c.item-item.ensures (sym c.superseded.ensures ∙ c.if-superseded.false) c.places.invariant c.in_ok-put.ensures

pub close_frame-requires : goal.close_frame-requires
close_frame-requires c = record { inside = λ fresh. c.places.invariant.within }

pub returns-in_err-close_frame : goal.returns-in_err-close_frame
returns-in_err-close_frame c =
    let p = err_from_is_err_and c.from_residual-in_err-close_frame.result c.from_residual-in_err-close_frame.ensures.1 in
    let s = c.in_err-close_frame.ensures in
    rw p.1 (walk_unended c.args.script.now c.args.window.now c.places.place c.args.planner.now.server c.places.planner c.close_frame.new.self c.args.out.now c.places.out c.close_frame.new.out (omega arith) c.places.invariant s.0)

pub returns : goal.returns
returns c =
    let s = c.in_ok-close_frame.ensures in (
      c.in_ok-frame.ensures.id,
      walk_ends c.args.script.now c.args.window.now c.places.place c.args.planner.now.server c.places.planner c.close_frame.new.self c.args.out.now c.places.out c.close_frame.new.out (omega arith) c.places.invariant s.1,
    )
