use Rattle.std.proofs.Common.{◌≡◌, ◌∙◌, Some, None, option_map, sym, arith, rules}
use Rattle.std.specs.FinMap.{get}
use Rattle.std.specs.List.{slice_get}
use Rattle.gfx_base.specs.Format.{byte_of}
use Rattle.gfx_planner.proofs.Payloads.{sides}
use Rattle.gfx_planner.proofs.StepMessages.{no_surface, no_picture, painting_is, painting_fits}
use Rattle.gfx_planner.proofs.messages.paint_picture.Goals as goal

pub unreachable-requires : goal.unreachable-requires
unreachable-requires c =
    let none : get c.args.state.now.shown.surfaces c.args.id ≡ None = search rules in
    no_surface c.args.state.now.clear _ (slice_get c.args.script.now.pictures c.args.picture) None c.args.id c.args.at none c.requires.there

pub unreachable-requires-in_default-picture_size : goal.unreachable-requires-in_default-picture_size
unreachable-requires-in_default-picture_size c =
    let none : slice_get c.args.script.now.pictures c.args.picture ≡ None = search rules in
    no_picture c.args.state.now.clear (get c.args.state.now.shown.surfaces c.args.id) _ None c.args.id c.args.at none c.requires.there

pub overflow_add-result : goal.overflow_add-result
overflow_add-result c =
    let there : get c.args.state.now.shown.surfaces c.args.id ≡ Some c.in-Some.surface.now = search rules in
    let sized : option_map sides (slice_get c.args.script.now.pictures c.args.picture) ≡ Some (c.in-Some-picture_size.width, c.in-Some-picture_size.height) = sym c.picture_size.ensures ∙ c.in-Some-picture_size.is in
    omega (arith, (painting_fits c.args.state.now.clear _ (slice_get c.args.script.now.pictures c.args.picture) c.in-Some.surface.now _ _ c.args.id c.args.at there sized c.requires.fits).0)

pub overflow_add-result-2 : goal.overflow_add-result-2
overflow_add-result-2 c =
    let there : get c.args.state.now.shown.surfaces c.args.id ≡ Some c.in-Some.surface.now = search rules in
    let sized : option_map sides (slice_get c.args.script.now.pictures c.args.picture) ≡ Some (c.in-Some-picture_size.width, c.in-Some-picture_size.height) = sym c.picture_size.ensures ∙ c.in-Some-picture_size.is in
    omega (arith, (painting_fits c.args.state.now.clear _ (slice_get c.args.script.now.pictures c.args.picture) c.in-Some.surface.now _ _ c.args.id c.args.at there sized c.requires.fits).1)

pub returns : goal.returns
returns c =
    let there : get c.args.state.now.shown.surfaces c.args.id ≡ Some c.in-Some.surface.now = search rules in
    let sized : option_map sides (slice_get c.args.script.now.pictures c.args.picture) ≡ Some (c.in-Some-picture_size.width, c.in-Some-picture_size.height) = sym c.picture_size.ensures ∙ c.in-Some-picture_size.is in
    let format : c.byte.result ≡ byte_of c.in-Some.surface.now.format = search rules in
    painting_is c.args.state.now.clear _ (slice_get c.args.script.now.pictures c.args.picture) c.in-Some.surface.now _ _ c.id.result c.byte.result c.args.id c.args.at c.in_ok-raw_payload.field-0 there sized c.id.ensures format c.in_ok-raw_payload.ensures
