use Rattle.std.proofs.Common.{◌≡◌, ◌∙◌, ap, ◌++◌}
use Rattle.std.proofs.lemmas.Int.{to_z-of_z}
use Rattle.std.specs.Int.{w32, cast_signed as to_z, cast_unsigned as of_z}
use Rattle.gfx_rlgr.specs.Code.{number_code, kr, after_number, kp_after, folded}
use Rattle.gfx_rlgr.proofs.Encoding.{value-written}
use Rattle.gfx_rlgr.proofs.Reading.{with_kp}
use Rattle.gfx_rlgr.proofs.encoder.write_value.Goals as goal

pub returns : goal.returns
returns c =
    let plain : to_z w32 (of_z w32 c.args.value) ≡ c.args.value = to_z-of_z w32 c.args.value c.ranges.value in
    let number : c.folded_number-number.result ≡ folded c.args.value = c.folded_number-number.ensures.value ∙ ap folded plain in
    value-written c.args.bits.now c.write_number.new.bits c.args.params.now c.write_number.new.params c.after_value.new.self c.args.value c.requires.single
    (c.in_ok-write_number.ensures.0 ∙ ap (λ n. c.args.bits.now ++ number_code (kr c.args.params.now) n) number)
    (c.in_ok-write_number.ensures.1 ∙ ap (after_number c.args.params.now) number)
    (c.after_value.ensures ∙ ap (λ n. with_kp (kp_after n c.write_number.new.params.kp) c.write_number.new.params) number)
