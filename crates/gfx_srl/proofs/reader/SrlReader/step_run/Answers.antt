use Rattle.std.proofs.Common.{◌≤◌, ◌∙◌, ◌^◌, ap, sym, subst, arith, pos, replicate}
use Rattle.std.proofs.lemmas.Nat.{one_shl}
use Rattle.gfx_bits.specs.Bits.{number}
use Rattle.gfx_srl.specs.Code.{k}
use Rattle.gfx_srl.specs.Steps.{Reader, ReadsMany}
use Rattle.gfx_srl.proofs.Stepping.{steps-zeros}
use Rattle.gfx_srl.proofs.Together.{run-passed}
use Rattle.gfx_srl.proofs.reader.SrlReader.step_run.Goals as goal

pub returns-then-zeros-room-clause-reads : goal.returns-then-zeros-room-clause-reads
returns-then-zeros-room-clause-reads c n =
    let shifted = one_shl c.width_of.result 32 (omega (arith, c.width_of.ensures.small)) ∙ ap (λ m. 2 ^ m) (c.width_of.ensures.value ∙ ap (λ (r : Reader). k r.kp) c.self.view_is) in
    let known : c.args.room ≤ c.open_run.new.self.zeros = omega (arith, c.if-zeros-room.true, shifted, c.open_run.ensures.zeros) in
    subst (λ m. ReadsMany n (replicate m (pos 0)) c.args.self.now c.fill.new.self) (sym c.fill.ensures.count)
    (steps-zeros c.args.self.now c.open_run.new.self c.fill.new.self c.args.room n c.open_run.ensures.reads known c.fill.ensures.rest)

pub returns-clause-reads : goal.returns-clause-reads
returns-clause-reads c n =
    rw (← c.self.view_is)
    (run-passed _ c.pass.new.self c.after_run-self-inside.result c.self.inside.zeros _ n c.self.inside.ends
    (ap (λ (r : Reader). r.zeros) c.self.view_is ∙ c.requires.begins.0) (ap (λ (r : Reader). r.ends) c.self.view_is ∙ c.requires.begins.1)
    (ap (λ (r : Reader). number 1 r.bits) c.self.view_is ∙ c.requires.full)
    c.pass.ensures c.after_run-self-inside.ensures
    (one_shl c.width_of.result 32 (omega (arith, c.width_of.ensures.small)) ∙ ap (λ m. 2 ^ m) c.width_of.ensures.value)
    (ap (λ (r : Reader). r.zeros) c.self.view_is ∙ c.requires.begins.0) (ap (λ (r : Reader). r.ends) c.self.view_is ∙ c.requires.begins.1))
