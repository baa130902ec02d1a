use Rattle.gfx_planner.specs.Bitmaps.{sides_kept}
use Rattle.gfx_planner.proofs.EndedTiles.{copy_fits, copy_touched, delete_touched, fill_touched, other_touched, paint_fits, paint_touched, show_fits, show_touched, surface_touched}
use Rattle.gfx_planner.proofs.passes.end_touched.Goals as goal

pub end_at_each-requires : goal.end_at_each-requires
end_at_each-requires c =
    copy_fits c.args.script.now (sides_kept c.args.plan.now c.args.state.now.cache.slots) c.args.step.now c.in-Copy.from c.in-Copy.to c.in-Copy.rect c.in-Copy.points _ c.in-Copy.is c.as_slice-in-Copy.ensures c.requires.fits

pub end_shown-requires-clause-fits : goal.end_shown-requires-clause-fits
end_shown-requires-clause-fits c =
    show_fits c.args.script.now (sides_kept c.args.plan.now c.args.state.now.cache.slots) c.args.step.now c.in-Show.key c.in-Show.to c.in-Show.points _ c.in-Show.is c.as_slice-in-Show.ensures c.requires.fits

pub end_painted-requires : goal.end_painted-requires
end_painted-requires c =
    paint_fits c.args.script.now (sides_kept c.args.plan.now c.args.state.now.cache.slots) c.args.step.now c.in-Paint.id c.in-Paint.picture c.in-Paint.at c.in-Paint.kind c.in-Paint.glyph c.in-Paint.is c.requires.fits

pub returns-in-Delete : goal.returns-in-Delete
returns-in-Delete c = λ kind apart still.
    delete_touched c.args.script.now (sides_kept c.args.plan.now c.args.state.now.cache.slots) c.args.state.now.shown.surfaces c.args.passes.now c.drop_surface.new.self kind c.args.step.now
    c.in-Delete.id c.in-Delete.is c.drop_surface.ensures

pub returns-in-Surface : goal.returns-in-Surface
returns-in-Surface c = λ kind apart still.
    surface_touched c.args.script.now (sides_kept c.args.plan.now c.args.state.now.cache.slots) c.args.state.now.shown.surfaces c.args.passes.now c.end_in.new.self kind c.args.step.now
    c.in-Surface.id c.in-Surface.width c.in-Surface.height c.in-Surface.format c.sized.result c.in-Surface.is c.sized.ensures c.end_in.ensures

pub returns-in-Fill : goal.returns-in-Fill
returns-in-Fill c = λ kind apart still.
    fill_touched c.args.script.now (sides_kept c.args.plan.now c.args.state.now.cache.slots) c.args.state.now.shown.surfaces c.args.passes.now c.end_in_each.new.passes kind c.args.step.now
    c.in-Fill.id c.in-Fill.colour c.in-Fill.rects _ c.in-Fill.is c.as_slice.ensures c.end_in_each.ensures

pub returns-in-Copy : goal.returns-in-Copy
returns-in-Copy c = λ kind apart still.
    copy_touched c.args.script.now (sides_kept c.args.plan.now c.args.state.now.cache.slots) c.args.state.now.shown.surfaces c.args.passes.now c.end_at_each.new.passes kind c.args.step.now
    c.in-Copy.from c.in-Copy.to c.in-Copy.rect c.in-Copy.points _ c.in-Copy.is c.as_slice-in-Copy.ensures c.end_at_each.ensures

pub returns-in-Show : goal.returns-in-Show
returns-in-Show c = λ kind apart still.
    show_touched c.args.script.now (sides_kept c.args.plan.now c.args.state.now.cache.slots) c.args.state.now.shown.surfaces c.args.passes.now c.end_shown.new.passes kind c.args.step.now
    c.in-Show.key c.in-Show.to c.in-Show.points _ c.in-Show.is c.as_slice-in-Show.ensures c.end_shown.ensures

pub returns-in-Paint : goal.returns-in-Paint
returns-in-Paint c = λ kind apart still.
    paint_touched c.args.script.now (sides_kept c.args.plan.now c.args.state.now.cache.slots) c.args.state.now.shown.surfaces c.args.passes.now c.end_painted.new.passes kind c.args.step.now
    c.in-Paint.id c.in-Paint.picture c.in-Paint.at c.in-Paint.kind c.in-Paint.glyph c.in-Paint.is apart still c.end_painted.ensures

pub returns-in_default : goal.returns-in_default
returns-in_default c = λ kind apart still.
    other_touched c.args.script.now (sides_kept c.args.plan.now c.args.state.now.cache.slots) c.args.state.now.shown.surfaces c.args.passes.now kind c.args.step.now
    c.in_default.not-Surface c.in_default.not-Delete c.in_default.not-Fill c.in_default.not-Copy c.in_default.not-Show c.in_default.not-Paint apart
