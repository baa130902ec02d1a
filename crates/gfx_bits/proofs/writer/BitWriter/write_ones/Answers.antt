use Rattle.std.proofs.Common.{◌-◌, ◌^◌, ◌∙◌, ◌++◌, ap, arith, true, replicate}
use Rattle.std.proofs.lemmas.Nat.{one_shl}
use Rattle.std.proofs.lemmas.Result.{on_ok_weaker}
use Rattle.gfx_bits.specs.Bits.{digits}
use Rattle.gfx_bits.proofs.Writing.{more_ones}
use Rattle.gfx_bits.proofs.writer.BitWriter.write_ones.Goals as goal

pub words-preserved : goal.words-preserved
words-preserved c = (
  omega arith,
  c.in_ok-push.ensures.ok
      ∙ ap (λ b. b ++ digits 32 (2 ^ 32 - 1)) c.words.invariant.1
      ∙ more_ones c.args.self.now (c.args.count - c.words.left) 32
      ∙ ap (λ n. c.args.self.now ++ replicate n true) {y = c.args.count - (c.words.left - 32)} (omega arith),
)

pub returns-clause-ok : goal.returns-clause-ok
returns-clause-ok c =
    on_ok_weaker c.push-2.result
    (λ written.
    written
    ∙ ap (λ value. c.words.self ++ digits c.words.left (value - 1)) (one_shl c.words.left 32 c.words-test.false)
    ∙ ap (λ b. b ++ digits c.words.left (2 ^ c.words.left - 1)) c.words.invariant.1
    ∙ more_ones c.args.self.now (c.args.count - c.words.left) c.words.left
    ∙ ap (λ n. c.args.self.now ++ replicate n true) {y = c.args.count} (omega arith))
    c.push-2.ensures.ok
