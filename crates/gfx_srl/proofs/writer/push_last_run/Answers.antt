use Rattle.std.proofs.Common.{◌∙◌, ◌++◌, ◌+◌, ◌-◌, ◌*◌, ◌^◌, ◌%◌, cond, ap, arith}
use Rattle.std.proofs.lemmas.Int.{to_z-of_z}
use Rattle.std.proofs.lemmas.Nat.{one_shl}
use Rattle.std.proofs.lemmas.Result.{on_ok_weaker}
use Rattle.std.specs.Int.{w32}
use Rattle.std.specs.Int.RustNames.{unsigned_abs}
use Rattle.std.specs.Prelude.{FitsSigned}
use Rattle.gfx_bits.specs.Bits.{digits, zeros_code}
use Rattle.gfx_srl.specs.Code.{is_negative}
use Rattle.gfx_srl.proofs.WritingSteps.{bit-of, head-below, last-run}
use Rattle.gfx_srl.proofs.writer.push_last_run.Goals as goal

pub push_counted-requires-clause-below : goal.push_counted-requires-clause-below
push_counted-requires-clause-below c =
    rw (one_shl (c.args.width + 1) 32 (omega (arith, c.requires.width)))
    (head-below c.args.width c.args.zeros c.sign_bit-sign.result c.requires.zeros (bit-of c.is_negative.result c.sign_bit-sign.result c.sign_bit-sign.ensures))

pub returns-clause-ok : goal.returns-clause-ok
returns-clause-ok c =
    let fits : FitsSigned w32 c.args.value = c.ranges.value in
    let plain = to_z-of_z w32 c.args.value fits in
    on_ok_weaker c.push_counted.result
    (λ written.
    last-run c.args.bits.now c.push_counted.new.self c.args.width c.args.zeros c.sign_bit-sign.result _ (2 ^ c.args.n - 2) (unsigned_abs c.args.value - 1) (is_negative c.args.value)
    c.requires.zeros (c.sign_bit-sign.ensures ∙ ap (λ b. cond b 1 0) (c.is_negative.ensures ∙ ap is_negative plain)) (one_shl (c.args.width + 1) 32 (omega (arith, c.requires.width)))
    (written
    ∙ ap (λ m. c.args.bits.now ++ (digits (c.args.width + 2) (1 * 2 ^ (c.args.width + 1) % 2 ^ 32 + 2 * c.args.zeros + c.sign_bit-sign.result) ++ zeros_code (m - 2) (c.unsigned_abs.result - 1))) (one_shl c.args.n 32 (omega (arith, c.requires.few)))
    ∙ ap (λ m. c.args.bits.now ++ (digits (c.args.width + 2) (1 * 2 ^ (c.args.width + 1) % 2 ^ 32 + 2 * c.args.zeros + c.sign_bit-sign.result) ++ zeros_code (2 ^ c.args.n - 2) (m - 1))) (c.unsigned_abs.ensures.value ∙ ap unsigned_abs plain)))
    c.push_counted.ensures.ok
