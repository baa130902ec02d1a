use Rattle.std.proofs.Common.{refl, sym}
use Rattle.gfx_clear.specs.Painting.{scene}
use Rattle.gfx_surface_map.specs.Shown.{with_picture}
use Rattle.gfx_state.specs.State.{State}
use Rattle.gfx_state.proofs.StreamLemmas.{stream_answers, applied_sides, room_repainted}
use Rattle.gfx_state.proofs.screen.State.paint_stream.Goals as goal

pub invariant_of-self : goal.invariant_of-self
invariant_of-self c =
    room_repainted c.self.inside.surfaces (record c.self.inside.surfaces { shown = with_picture c.self.inside.surfaces.shown c.args.id c.decode.new.surface }) c.args.id c.in-Some.surface.now c.decode.new.surface
    (sym c.in-Some.ensures.value)
    (applied_sides c.decode.result (scene c.self.inside.clear c.in-Some.surface.now) (scene c.decode.new.self c.decode.new.surface) c.args.rect c.args.stream.now c.decode.ensures.decoded)
    refl c.self.invariant

pub returns : goal.returns
returns c =
    let state : State = record { shown = c.self.inside.surfaces.shown; cache = c.self.inside.cache; clear = c.self.inside.clear; records = c.self.inside.records; frame = c.self.inside.frame; decoded = c.self.inside.decoded } in
    rw (← c.self.view_is)
    (stream_answers c.decode.result state c.args.id c.in-Some.surface.now (scene c.decode.new.self c.decode.new.surface) c.args.rect c.args.stream.now (sym c.in-Some.ensures.value) c.decode.ensures.decoded)
