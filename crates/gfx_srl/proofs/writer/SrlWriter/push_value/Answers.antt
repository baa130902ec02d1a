use Rattle.std.proofs.Common.{◌∙◌, ◌++◌, ◌∷◌, true, ◌-◌, ◌^◌, ap}
use Rattle.std.proofs.lemmas.Int.{to_z-of_z}
use Rattle.std.specs.Int.{w32}
use Rattle.std.specs.Int.RustNames.{unsigned_abs}
use Rattle.std.specs.Prelude.{FitsSigned}
use Rattle.gfx_bits.specs.Bits.{digits, zeros_code}
use Rattle.gfx_srl.specs.Code.{is_negative}
use Rattle.gfx_srl.proofs.WritingSteps.{ends, value-code}
use Rattle.gfx_srl.proofs.writer.SrlWriter.push_value.Goals as goal

pub returns-clause-ok : goal.returns-clause-ok
returns-clause-ok c =
    let fits : FitsSigned w32 c.args.value = c.ranges.value in
    let plain = to_z-of_z w32 c.args.value fits in
    rw (← c.self.view_is)
    (ends _ c.push_last_run.new.bits c.after_value-self-inside.result c.args.n c.args.value c.self.invariant.1 c.requires.value c.requires.small
    (value-code c.self.inside.bits c.push_last_run.new.bits c.self.inside.kp c.self.inside.zeros c.args.n c.width_of-width.result c.args.value c.width_of-width.ensures.value
    (c.in_ok-push_last_run.ensures.ok
    ∙ ap (λ z. c.self.inside.bits ++ (true ∷ (digits c.width_of-width.result c.self.inside.zeros ++ (is_negative z ∷ zeros_code (2 ^ c.args.n - 2) (unsigned_abs z - 1))))) plain))
    c.after_value-self-inside.ensures)
