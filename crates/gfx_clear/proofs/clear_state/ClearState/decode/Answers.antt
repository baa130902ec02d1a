use Rattle.std.proofs.Common.{◌≡◌, ◌*◌, Some, Ok, Err, refl, ap, ◌∙◌, subst}
use Rattle.gfx_base.specs.Geometry.{width_of, height_of}
use Rattle.gfx_base.specs.Outcome.{Applies, WantsOnlyIf}
use Rattle.gfx_clear.specs.Begun.{is_begun}
use Rattle.gfx_clear.specs.State.{state, next_sequence}
use Rattle.gfx_clear.specs.Inside.{state_of}
use Rattle.gfx_clear.specs.Painting.{scene, decoded}
use Rattle.gfx_clear.proofs.Wanting.{head_begun}
use Rattle.gfx_clear.proofs.Decoding.{decoded_refused, decoded_drawn, decoded_undone}
use Rattle.gfx_clear.proofs.clear_state.ClearState.decode.Goals as goal

pub returns-in-Err-clause-decoded : goal.returns-in-Err-clause-decoded
returns-in-Err-clause-decoded c = (
  subst (λ z. decoded (scene z c.args.surface.now) c.args.rect c.args.stream.now ≡ Err c.in-Err.refusal) c.self.view_is
      (decoded_refused (state_of c.self.inside) c.args.surface.now c.args.rect (c.from.result * c.from-2.result) c.args.stream.now c.in-Err.refusal
      (λ i. (c.from.ensures ∙ c.width.ensures) i * (c.from-2.ensures ∙ c.height.ensures) i) c.in-Err.ensures),
  refl,
)

pub returns-in-Ok-draw-clause-decoded : goal.returns-in-Ok-draw-clause-decoded
returns-in-Ok-draw-clause-decoded c =
    subst (λ z. decoded (scene z c.args.surface.now) c.args.rect c.args.stream.now ≡ Ok (scene (state c.draw.new.store.held c.draw.new.glyphs (Some (next_sequence c.in-Ok.read.0.sequence))) c.draw.new.surface)) c.self.view_is
    (decoded_drawn (state_of c.self.inside) c.args.surface.now c.draw.new.surface c.args.rect (c.from.result * c.from-2.result) c.args.stream.now c.in-Ok.read.1.now c.in-Ok.read.0
    c.begin.new.store.held c.draw.new.store.held c.draw.new.glyphs
    (λ i. (c.from.ensures ∙ c.width.ensures) i * (c.from-2.ensures ∙ c.height.ensures) i) c.in-Ok.ensures (ap (λ z. z.held) c.begin.ensures) c.in-Ok-draw.ensures.draws)

pub returns-in-Err-draw-clause-decoded : goal.returns-in-Err-draw-clause-decoded
returns-in-Err-draw-clause-decoded c =
    subst (λ z. Applies (Err c.in-Err-draw.fault) (scene z c.args.surface.now) (scene (state c.roll_back.new.self.held c.draw.new.glyphs c.self.inside.expected) c.draw.new.surface) (decoded (scene z c.args.surface.now) c.args.rect c.args.stream.now)) c.self.view_is
    (decoded_undone c.in-Err-draw.fault (state_of c.self.inside) c.args.surface.now c.draw.new.surface c.args.rect (c.from.result * c.from-2.result) c.args.stream.now c.in-Ok.read.1.now c.in-Ok.read.0
    c.begin.new.store.held c.draw.new.store.held c.roll_back.new.self.held c.draw.new.glyphs
    (λ i. (c.from.ensures ∙ c.width.ensures) i * (c.from-2.ensures ∙ c.height.ensures) i) c.in-Ok.ensures (ap (λ z. z.held) c.begin.ensures)
    (ap (λ z. z.held) c.roll_back.ensures ∙ c.in-Err-draw.ensures.marked ∙ ap (λ z. z.marked) c.begin.ensures) c.in-Err-draw.ensures.draws)

pub returns-in-Err-draw-clause-memory : goal.returns-in-Err-draw-clause-memory
returns-in-Err-draw-clause-memory c =
    subst (λ z. WantsOnlyIf {X = Unit {0}} (Err c.in-Err-draw.fault) (is_begun z (width_of c.args.rect) (height_of c.args.rect) c.args.stream.now)) c.self.view_is
    (subst (WantsOnlyIf {X = Unit {0}} (Err c.in-Err-draw.fault))
    (head_begun (state_of c.self.inside) (c.from.result * c.from-2.result) (width_of c.args.rect) (height_of c.args.rect) c.args.stream.now c.in-Ok.read.1.now c.in-Ok.read.0
    (λ i. (c.from.ensures ∙ c.width.ensures) i * (c.from-2.ensures ∙ c.height.ensures) i) c.in-Ok.ensures)
    c.in-Err-draw.ensures.memory)
