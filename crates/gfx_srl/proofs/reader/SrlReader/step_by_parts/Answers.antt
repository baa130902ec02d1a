use Rattle.std.proofs.Common.{◌≡◌, ◌∙◌, ◌≤◌, ap, arith, replicate, pos}
use Rattle.std.proofs.lemmas.Int.{to_z-of_z}
use Rattle.std.specs.Int.{w32}
use Rattle.std.specs.Prelude.{FitsSigned}
use Rattle.gfx_srl.specs.Steps.{Reader}
use Rattle.gfx_srl.proofs.Stepping.{steps-zeros, steps-value, has-room, some-passed}
use Rattle.gfx_srl.proofs.reader.SrlReader.step_by_parts.Goals as goal

pub returns-then-passed-room-clause-value : goal.returns-then-passed-room-clause-value
returns-then-passed-room-clause-value c some =
    let fits : FitsSigned w32 c.read_value.result = record { sfits = c.read_value.type_inv } in
    let known : c.pass_run-passed.result ≤ c.open_token.new.self.zeros = omega (arith, c.pass_run-passed.ensures.count) in (
      has-room c.pass_run-passed.result c.args.room c.self.inside.ends c.if-passed-room.true,
      rw (to_z-of_z w32 c.read_value.result fits)
          (steps-value c.args.self.now c.pass_run-passed.new.self c.read_value.new.self (replicate c.pass_run-passed.result (pos 0)) c.read_value.result c.args.n
          (steps-zeros c.args.self.now c.open_token.new.self c.pass_run-passed.new.self c.pass_run-passed.result c.args.n c.open_token.ensures.reads known c.pass_run-passed.ensures.rest)
          c.read_value.ensures.value),
    )

pub returns-clause-zeros : goal.returns-clause-zeros
returns-clause-zeros c none =
    let same : c.self.inside.ends ≡ c.open_token.new.self.ends = ap (λ (r : Reader). r.ends) (c.self.view_is ∙ c.pass_run-passed.ensures.rest) in
    let known : c.pass_run-passed.result ≤ c.open_token.new.self.zeros = omega (arith, c.pass_run-passed.ensures.count) in (
      some-passed c.pass_run-passed.result c.open_token.new.self.zeros c.args.room c.self.inside.ends c.pass_run-passed.ensures.count c.requires.room
          (λ e. same ∙ c.open_token.ensures.known e) c.if-passed-room.false,
      steps-zeros c.args.self.now c.open_token.new.self c.pass_run-passed.new.self c.pass_run-passed.result c.args.n c.open_token.ensures.reads known c.pass_run-passed.ensures.rest,
    )
