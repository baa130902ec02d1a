use Rattle.std.proofs.Common.{◌≡◌, ◌∙◌, Some, Ok, Err, ap, option_map, sym, subst}
use Rattle.std.specs.Prelude.{IfSome}
use Rattle.std.specs.List.{AllByRecursion}
use Rattle.gfx_base.specs.Geometry.{IsRect, sized}
use Rattle.gfx_bitmap_cache.specs.Slots.{image_of, shown}
use Rattle.gfx_script.specs.declared.held.Sides.{Sides}
use Rattle.gfx_script.specs.Writes.{area, at_each}
use Rattle.gfx_slot_plan.specs.Plan.{slot_of}
use Rattle.gfx_planner.specs.Passes.{ended_by}
use Rattle.gfx_planner.proofs.EndedTiles.{never_empty, no_slot_ended, sides_shown}
use Rattle.gfx_planner.proofs.passes.end_shown.Goals as goal

pub returns-in_default : goal.returns-in_default
returns-in_default c =
    no_slot_ended c.args.passes.now c.args.plan.now c.args.state.now.cache.slots c.args.key (λ (sides : Sides). area c.args.to (at_each c.args.points.now (sized sides.width sides.height))) (sym c.slot.ensures ∙ c.in_default.is)

pub returns-in_default-show : goal.returns-in_default-show
returns-in_default-show c =
    let is : slot_of c.args.key c.args.plan.now.places ≡ Some c.in-Some.slot = sym c.slot.ensures ∙ c.in-Some.is in
    let refused : shown c.args.state.now.cache c.in-Some.slot ≡ Err c.in_default-show.field-0 = rw (← c.cache.ensures) (rw c.in_default-show.is at c.show.ensures) in
    never_empty c.args.plan.now c.args.state.now.cache c.args.key c.in-Some.slot c.in_default-show.field-0 c.requires.plan is refused

pub end_at_each-requires : goal.end_at_each-requires
end_at_each-requires c =
    let is : slot_of c.args.key c.args.plan.now.places ≡ Some c.in-Some.slot = sym c.slot.ensures ∙ c.in-Some.is in
    let shows : shown c.args.state.now.cache c.in-Some.slot ≡ Ok (image_of c.in-Ok.bitmap.now) = rw (← c.cache.ensures) (rw c.in-Ok.is at c.show.ensures) in
    let kept = sides_shown c.args.plan.now c.args.state.now.cache c.args.key c.in-Some.slot (image_of c.in-Ok.bitmap.now) c.requires.plan is shows in
    subst (λ r. AllByRecursion IsRect (at_each c.args.points.now r)) (sym c.sized.ensures)
    (subst (λ o. IfSome o (λ (sides : Sides). AllByRecursion IsRect (at_each c.args.points.now (sized sides.width sides.height)))) kept c.requires.fits)

pub returns : goal.returns
returns c =
    let is : slot_of c.args.key c.args.plan.now.places ≡ Some c.in-Some.slot = sym c.slot.ensures ∙ c.in-Some.is in
    let shows : shown c.args.state.now.cache c.in-Some.slot ≡ Ok (image_of c.in-Ok.bitmap.now) = rw (← c.cache.ensures) (rw c.in-Ok.is at c.show.ensures) in
    let kept = sides_shown c.args.plan.now c.args.state.now.cache c.args.key c.in-Some.slot (image_of c.in-Ok.bitmap.now) c.requires.plan is shows in
    c.end_at_each.ensures ∙ ap (λ r. ended_by c.args.passes.now (Some (area c.args.to (at_each c.args.points.now r)))) c.sized.ensures
    ∙ sym (ap (λ o. ended_by c.args.passes.now (option_map (λ (sides : Sides). area c.args.to (at_each c.args.points.now (sized sides.width sides.height))) o)) kept)
