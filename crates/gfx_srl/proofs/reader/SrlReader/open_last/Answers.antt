use Rattle.std.proofs.Common.{◌∙◌, ◌+◌, ap, sym, refl, arith, drop}
use Rattle.std.proofs.lemmas.List.{drop-drop}
use Rattle.gfx_bits.specs.Bits.{number}
use Rattle.gfx_srl.specs.Code.{k}
use Rattle.gfx_srl.specs.Steps.{Reader}
use Rattle.gfx_srl.proofs.ReadingSteps.{begins-value}
use Rattle.gfx_srl.proofs.reader.SrlReader.open_last.Goals as goal

pub returns-clause-reads : goal.returns-clause-reads
returns-clause-reads c =
    rw (← c.self.view_is)
    (begins-value _ c.pass.new.self c.self.inside.kp c.args.run _
    (ap (λ (r : Reader). r.zeros) c.self.view_is ∙ c.requires.begins.0) (ap (λ (r : Reader). r.ends) c.self.view_is ∙ c.requires.begins.1)
    (λ e. c.requires.last (ap (λ (r : Reader). number 1 r.bits) (sym c.self.view_is) ∙ e))
    (c.pass.ensures
    ∙ ap (λ n. drop n c.self.inside.bits) {y = 1 + k c.self.inside.kp} (omega (arith, c.width_of.ensures.value))
    ∙ sym (drop-drop (k c.self.inside.kp) 1 c.self.inside.bits ∙ ap (λ n. drop n c.self.inside.bits) {y = 1 + k c.self.inside.kp} (omega arith)))
    refl
    (c.requires.run ∙ ap (λ (r : Reader). number (k r.kp) (drop 1 r.bits)) (sym c.self.view_is))
    refl)
