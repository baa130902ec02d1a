use Rattle.std.proofs.Common.{◌-◌, ◌∙◌, ◌++◌, ap, arith, false, replicate}
use Rattle.std.proofs.lemmas.Result.{on_ok_weaker}
use Rattle.gfx_bits.specs.Bits.{digits}
use Rattle.gfx_bits.proofs.Zeros.{more_zeros}
use Rattle.gfx_bits.proofs.writer.BitWriter.write_zeros.Goals as goal

pub words-preserved : goal.words-preserved
words-preserved c = (
  omega arith,
  c.in_ok-push.ensures.ok
      ∙ ap (λ b. b ++ digits 32 0) c.words.invariant.1
      ∙ more_zeros c.args.self.now (c.args.count - c.words.left) 32
      ∙ ap (λ n. c.args.self.now ++ replicate n false) {y = c.args.count - (c.words.left - 32)} (omega arith),
)

pub returns-clause-ok : goal.returns-clause-ok
returns-clause-ok c =
    on_ok_weaker c.push-2.result
    (λ written.
    written
    ∙ ap (λ b. b ++ digits c.words.left 0) c.words.invariant.1
    ∙ more_zeros c.args.self.now (c.args.count - c.words.left) c.words.left
    ∙ ap (λ n. c.args.self.now ++ replicate n false) {y = c.args.count} (omega arith))
    c.push-2.ensures.ok
