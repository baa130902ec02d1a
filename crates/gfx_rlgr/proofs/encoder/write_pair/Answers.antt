use Rattle.std.proofs.Common.{◌≡◌, ◌∙◌, ◌+◌, ap, ◌++◌, refl, arith}
use Rattle.std.proofs.lemmas.Int.{to_z-of_z}
use Rattle.std.specs.Int.{w32}
use Rattle.gfx_bits.specs.Bits.{digits}
use Rattle.gfx_rlgr.specs.Code.{folded}
use Rattle.gfx_rlgr.proofs.Lengths.{fits-digits}
use Rattle.gfx_rlgr.proofs.PairSteps.{pair-written}
use Rattle.gfx_rlgr.proofs.encoder.write_pair.Goals as goal

pub push-requires-clause-below : goal.push-requires-clause-below
push-requires-clause-below c =
    rw c.digits_of.ensures.value (fits-digits c.folded_number-one.result (c.folded_number-one.result + c.folded_number-other.result) (omega arith))

pub returns : goal.returns
returns c =
    let one : c.folded_number-one.result ≡ folded c.args.first = c.folded_number-one.ensures.value ∙ ap folded (to_z-of_z w32 c.args.first c.ranges.first) in
    let other : c.folded_number-other.result ≡ folded c.args.second = c.folded_number-other.ensures.value ∙ ap folded (to_z-of_z w32 c.args.second c.ranges.second) in
    pair-written c.args.bits.now c.write_number.new.bits c.push.new.self c.args.params.now c.write_number.new.params c.after_pair.new.self
    c.args.first c.args.second c.requires.single
    (rw (one, other) at c.in_ok-write_number.ensures.0)
    (rw (one, other) at c.in_ok-write_number.ensures.1)
    (c.in_ok-push.ensures.ok ∙ ap (λ n. c.write_number.new.bits ++ digits n c.folded_number-one.result) c.digits_of.ensures.value ∙ rw (one, other) refl)
    (rw (one, other) at c.after_pair.ensures)
