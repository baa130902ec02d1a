use Rattle.std.proofs.Common.{refl, sym}
use Rattle.gfx_prog_decode.specs.Scene.{scene}
use Rattle.gfx_surface_map.specs.Shown.{with_picture}
use Rattle.gfx_state.specs.State.{State}
use Rattle.gfx_state.proofs.StreamLemmas.{room_repainted}
use Rattle.gfx_state.proofs.TileLemmas.{tiles_answer, tiles_sides}
use Rattle.gfx_state.proofs.screen.State.draw_tiles.Goals as goal

pub invariant_of-self : goal.invariant_of-self
invariant_of-self c =
    room_repainted c.self.inside.surfaces (record c.self.inside.surfaces { shown = with_picture c.self.inside.surfaces.shown c.args.id c.apply.new.surface }) c.args.id c.in-Some.surface.now c.apply.new.surface
    (sym c.in-Some.ensures.value)
    (tiles_sides c.apply.result (record { surface = c.args.id; context = c.args.context }) (scene c.self.inside.records c.in-Some.surface.now) (scene c.apply.new.self c.apply.new.surface) c.args.payload.now c.apply.ensures.value)
    refl c.self.invariant

pub returns : goal.returns
returns c =
    let state : State = record { shown = c.self.inside.surfaces.shown; cache = c.self.inside.cache; clear = c.self.inside.clear; records = c.self.inside.records; frame = c.self.inside.frame; decoded = c.self.inside.decoded } in
    rw (← c.self.view_is)
    (tiles_answer c.apply.result state c.args.id c.args.context c.in-Some.surface.now (scene c.apply.new.self c.apply.new.surface) c.args.payload.now (sym c.in-Some.ensures.value) c.apply.ensures.value)
