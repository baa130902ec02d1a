use Rattle.std.proofs.Common.{◌≡◌, ◌∙◌, Some, option_map, sym, rules}
use Rattle.std.specs.List.{slice_get}
use Rattle.gfx_base.specs.Geometry.{moved, sized}
use Rattle.gfx_planner.proofs.EndedTiles.{no_source_ended, source_ended}
use Rattle.gfx_planner.proofs.Payloads.{sides}
use Rattle.gfx_planner.proofs.passes.end_painted.Goals as goal

pub returns-in_default : goal.returns-in_default
returns-in_default c = no_source_ended c.args.passes.now c.args.id (slice_get c.args.script.now.pictures c.args.picture) c.args.at (sym c.picture_size.ensures ∙ c.in_default.is)

pub returns : goal.returns
returns c =
    let drawn : option_map sides (slice_get c.args.script.now.pictures c.args.picture) ≡ Some (c.in-Some.width, c.in-Some.height) = sym c.picture_size.ensures ∙ c.in-Some.is in
    let rect : c.moved_to.result ≡ moved (sized c.in-Some.width c.in-Some.height) c.args.at = search rules in
    source_ended c.args.passes.now c.end_in.new.self c.args.id (slice_get c.args.script.now.pictures c.args.picture) c.args.at c.in-Some.width c.in-Some.height c.moved_to.result drawn rect c.end_in.ensures
