use Rattle.std.proofs.Common.{refl, sym}
use Rattle.gfx_surface_map.specs.Shown.{with_picture}
use Rattle.gfx_state.specs.State.{State}
use Rattle.gfx_state.proofs.StreamLemmas.{room_repainted}
use Rattle.gfx_state.proofs.VideoLemmas.{video_answers, video_sides}
use Rattle.gfx_state.proofs.screen.State.paint_video.Goals as goal

pub invariant_of-self : goal.invariant_of-self
invariant_of-self c =
    room_repainted c.self.inside.surfaces (record c.self.inside.surfaces { shown = with_picture c.self.inside.surfaces.shown c.args.id c.decode.new.surface }) c.args.id c.in-Some.surface.now c.decode.new.surface
    (sym c.in-Some.ensures.value)
    (video_sides c.decode.result c.in-Some.surface.now c.decode.new.surface c.args.rect c.args.bytes.now c.decode.ensures.value)
    refl c.self.invariant

pub returns : goal.returns
returns c =
    let state : State = record { shown = c.self.inside.surfaces.shown; cache = c.self.inside.cache; clear = c.self.inside.clear; records = c.self.inside.records; frame = c.self.inside.frame; decoded = c.self.inside.decoded } in
    rw (← c.self.view_is)
    (video_answers c.decode.result state c.args.id c.in-Some.surface.now c.decode.new.surface c.args.rect c.args.bytes.now (sym c.in-Some.ensures.value) c.decode.ensures.value)
