use Rattle.std.proofs.Common.{refl, sym, subst}
use Rattle.std.specs.Prelude.{IsSomeAnd, IsTrue}
use Rattle.std.specs.FinMap.{get}
use Rattle.gfx_base.specs.Geometry.{lies_in}
use Rattle.gfx_clear.specs.Painting.{scene}
use Rattle.gfx_surface_map.specs.Shown.{with_picture}
use Rattle.gfx_state.specs.State.{State}
use Rattle.gfx_state.proofs.StreamLemmas.{sent_steps, not_sent, sent_sides, room_repainted}
use Rattle.gfx_state.proofs.screen.State.paint_clear.Goals as goal

pub invariant_of-self : goal.invariant_of-self
invariant_of-self c =
    room_repainted c.self.inside.surfaces (record c.self.inside.surfaces { shown = with_picture c.self.inside.surfaces.shown c.args.id c.send.new.surface }) c.args.id c.in-Some.surface.now c.send.new.surface
    (sym c.in-Some.ensures.value)
    (sent_sides c.send.result (scene c.self.inside.clear c.in-Some.surface.now) (scene c.send.new.self c.send.new.surface) c.args.rect c.send.ensures.step c.send.ensures.surface)
    refl c.self.invariant

pub returns-clause-step : goal.returns-clause-step
returns-clause-step c =
    let state : State = record { shown = c.self.inside.surfaces.shown; cache = c.self.inside.cache; clear = c.self.inside.clear; records = c.self.inside.records; frame = c.self.inside.frame; decoded = c.self.inside.decoded } in
    rw (← c.self.view_is)
    (sent_steps c.send.result state c.args.id c.in-Some.surface.now (scene c.send.new.self c.send.new.surface) c.args.rect (sym c.in-Some.ensures.value)
    (subst (λ (s : State). IsSomeAnd (get s.shown.surfaces c.args.id) (λ picture. IsTrue (lies_in picture.width picture.height c.args.rect))) (sym c.self.view_is) c.requires.inside)
    c.send.ensures.step)

pub returns-clause-err : goal.returns-clause-err
returns-clause-err c =
    let state : State = record { shown = c.self.inside.surfaces.shown; cache = c.self.inside.cache; clear = c.self.inside.clear; records = c.self.inside.records; frame = c.self.inside.frame; decoded = c.self.inside.decoded } in
    rw (← c.self.view_is)
    (not_sent c.send.result state c.args.id c.in-Some.surface.now (scene c.send.new.self c.send.new.surface) (sym c.in-Some.ensures.value) c.send.ensures.state c.send.ensures.surface)
