use Rattle.gfx_base.specs.Geometry.{width_of, height_of}
use Rattle.gfx_prog_live.specs.Live.{at_start}
use Rattle.gfx_slot_plan.specs.Plan.{keeps, slot_of}
use Rattle.gfx_planner.specs.StepMessages.{made_as}
use Rattle.gfx_planner.proofs.StepMessages.{is_chosen, is_shown_from, is_emptied, raw_made, raw_made_is}
use Rattle.gfx_planner.proofs.messages.step_messages.Goals as goal

pub keep_rect-requires : goal.keep_rect-requires
unfolding made_as
keep_rect-requires c =
    is_chosen (keeps c.args.plan.now c.in-Keep.key (width_of c.in-Keep.rect) (height_of c.in-Keep.rect)) c.in-Keep.id c.in-Keep.key c.in-Keep.rect (rw c.in-Keep.is at c.requires.possible)

pub show_key-requires : goal.show_key-requires
unfolding made_as
show_key-requires c = is_shown_from (slot_of c.in-Show.key c.args.plan.now.places) c.in-Show.to c.in-Show.points _ (rw c.in-Show.is at c.requires.possible)

pub forget_key-requires : goal.forget_key-requires
unfolding made_as
forget_key-requires c = is_emptied (slot_of c.in-Forget.key c.args.plan.now.places) _ (rw c.in-Forget.is at c.requires.possible)

pub paint_picture-requires-clause-there : goal.paint_picture-requires-clause-there
paint_picture-requires-clause-there c =
    (raw_made c.args.script.now c.args.state.now at_start c.args.plan.now c.args.kind c.in-Paint.kind c.in-Paint.glyph c.in-Paint.id c.in-Paint.picture c.in-Paint.at c.args.step.now
    c.in-Paint.is c.requires.possible c.requires.messages c.requires.apart c.requires.still).there

pub paint_picture-requires-clause-fits : goal.paint_picture-requires-clause-fits
paint_picture-requires-clause-fits c =
    (raw_made c.args.script.now c.args.state.now at_start c.args.plan.now c.args.kind c.in-Paint.kind c.in-Paint.glyph c.in-Paint.id c.in-Paint.picture c.in-Paint.at c.args.step.now
    c.in-Paint.is c.requires.possible c.requires.messages c.requires.apart c.requires.still).fits

pub returns-in_ok-paint_picture-in-Paint : goal.returns-in_ok-paint_picture-in-Paint
returns-in_ok-paint_picture-in-Paint c =
    raw_made_is c.alone-in-Paint.result (λ pdus. pdus.items) c.args.script.now c.args.state.now at_start c.args.plan.now c.args.kind c.in-Paint.kind c.in-Paint.glyph c.in-Paint.id c.in-Paint.picture c.in-Paint.at c.args.step.now
    c.in_ok-paint_picture-in-Paint.field-0 c.in-Paint.is c.requires.possible c.requires.messages c.requires.apart c.requires.still c.in_ok-paint_picture-in-Paint.ensures c.alone-in-Paint.ensures
