use Rattle.std.proofs.Common.{◌≤◌, arith, sym, subst, pos, replicate}
use Rattle.gfx_srl.specs.Steps.{ReadsMany}
use Rattle.gfx_srl.proofs.Stepping.{steps-zeros}
use Rattle.gfx_srl.proofs.reader.SrlReader.step_ahead.Goals as goal

pub returns-then-run-room-clause-zeros : goal.returns-then-run-room-clause-zeros
returns-then-run-room-clause-zeros c none =
    let reads = rw (c.peek-word.ensures.same, c.self.view_is) at c.open_last.ensures.reads in
    let known : c.args.room ≤ c.open_last.new.self.zeros = omega (arith, c.if-run-room.true, c.open_last.ensures.zeros) in (
      omega (arith, c.fill.ensures.count, c.requires.room),
      subst (λ m. ReadsMany c.args.n (replicate m (pos 0)) c.args.self.now c.fill.new.self) (sym c.fill.ensures.count)
          (steps-zeros c.args.self.now c.open_last.new.self c.fill.new.self c.args.room c.args.n reads known c.fill.ensures.rest),
    )
