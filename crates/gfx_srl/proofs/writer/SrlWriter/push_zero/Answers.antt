use Rattle.std.proofs.Common.{◌≡◌, ◌∙◌, ◌*◌, ◌%◌, ◌^◌, ap, arith}
use Rattle.std.proofs.lemmas.Nat.{one_shl}
use Rattle.gfx_srl.specs.Code.{k}
use Rattle.gfx_srl.proofs.WritingSteps.{fills}
use Rattle.gfx_srl.proofs.writer.SrlWriter.push_zero.Goals as goal

pub returns-clause-ok : goal.returns-clause-ok
returns-clause-ok c =
    let power : 1 * 2 ^ c.width_of.result % 2 ^ 32 ≡ 2 ^ k c.self.inside.kp =
    one_shl c.width_of.result 32 (omega (arith, c.width_of.ensures.small)) ∙ ap (λ n. 2 ^ n) c.width_of.ensures.value in
    rw (← c.self.view_is)
    (fills _ c.push.new.self c.after_run-self-inside.result c.self.invariant.1 (omega (arith, c.if-zeros-width_of.false)) c.in_ok-push.ensures.ok c.after_run-self-inside.ensures)
