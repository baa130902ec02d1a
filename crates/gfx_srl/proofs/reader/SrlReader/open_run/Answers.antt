use Rattle.std.proofs.Common.{◌∙◌, ◌^◌, ap, arith}
use Rattle.std.proofs.lemmas.Nat.{one_shl}
use Rattle.gfx_bits.specs.Bits.{number}
use Rattle.gfx_srl.specs.Steps.{Reader}
use Rattle.gfx_srl.proofs.ReadingSteps.{begins-run}
use Rattle.gfx_srl.proofs.reader.SrlReader.open_run.Goals as goal

pub returns-clause-reads : goal.returns-clause-reads
returns-clause-reads c =
    rw (← c.self.view_is)
    (begins-run _ c.pass.new.self c.after_run-self-inside.result _ c.self.inside.ends
    (ap (λ (r : Reader). r.zeros) c.self.view_is ∙ c.requires.begins.0) (ap (λ (r : Reader). r.ends) c.self.view_is ∙ c.requires.begins.1)
    (ap (λ (r : Reader). number 1 r.bits) c.self.view_is ∙ c.requires.full) c.pass.ensures c.after_run-self-inside.ensures
    (one_shl c.width_of.result 32 (omega (arith, c.width_of.ensures.small)) ∙ ap (λ n. 2 ^ n) c.width_of.ensures.value)
    (ap (λ (r : Reader). r.ends) c.self.view_is ∙ c.requires.begins.1))
