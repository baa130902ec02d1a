use Rattle.std.proofs.Common.{◌+◌, ◌∙◌, ap, arith, drop, refl, sym, subst}
use Rattle.std.proofs.lemmas.List.{drop-drop}
use Rattle.gfx_bits.specs.Bits.{Spelled, zeros_code}
use Rattle.gfx_bits.proofs.Zeros.{ends-read, most-read}
use Rattle.gfx_bits.proofs.reader.BitReader.fetch_zeros.Goals as goal

pub returns-then-zeros-min-clause-spelled : goal.returns-then-zeros-min-clause-spelled
returns-then-zeros-min-clause-spelled c =
    subst (Spelled c.args.self.now (zeros_code c.args.most c.zeros_of-zeros.result))
    (drop-drop 1 c.zeros_of-zeros.result c.args.self.now
    ∙ ap (λ k. drop k c.args.self.now) {y = c.zeros_of-zeros.result + 1} (omega arith)
    ∙ sym (c.pass.ensures ∙ ap (drop (c.zeros_of-zeros.result + 1)) c.peek.ensures.same))
    (ends-read c.args.self.now (drop c.zeros_of-zeros.result c.args.self.now) c.args.most c.zeros_of-zeros.result (omega arith)
    (c.zeros_of-zeros.ensures.zeros c.args.self.now c.peek.ensures.shows c.zeros_of-zeros.result (omega arith))
    (c.zeros_of-zeros.ensures.ends c.args.self.now c.peek.ensures.shows (omega arith)))

pub returns-then-most-le-WINDOW-clause-spelled : goal.returns-then-most-le-WINDOW-clause-spelled
returns-then-most-le-WINDOW-clause-spelled c =
    rw (c.pass-then-most-le-WINDOW.ensures ∙ ap (drop c.args.most) c.peek.ensures.same)
    (most-read c.args.self.now (drop c.args.most c.args.self.now) c.args.most c.args.most refl
    (c.zeros_of-zeros.ensures.zeros c.args.self.now c.peek.ensures.shows c.args.most (omega arith)))
