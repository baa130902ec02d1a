use Rattle.std.proofs.Common.{◌+◌, ◌∙◌, ap, arith, drop, suc, sym}
use Rattle.std.proofs.lemmas.List.{drop-drop}
use Rattle.gfx_bits.specs.Bits.{number, ones}
use Rattle.gfx_bits.proofs.reader.BitReader.fetch_ones_then.Goals as goal

pub returns-then-taken-le-WINDOW-clause-value : goal.returns-then-taken-le-WINDOW-clause-value
returns-then-taken-le-WINDOW-clause-value c =
    c.number_in.ensures 57 c.args.self.now (omega arith) (omega arith) c.peek-word.ensures.shows
    ∙ ap (λ k. number c.args.n (drop k c.args.self.now)) {y = suc (ones c.args.self.now)} (omega (arith, c.ones_of-ones.ensures c.args.self.now c.peek-word.ensures.shows))

pub returns-then-taken-le-WINDOW-clause-rest : goal.returns-then-taken-le-WINDOW-clause-rest
returns-then-taken-le-WINDOW-clause-rest c =
    c.pass.ensures
    ∙ ap (drop (c.ones_of-ones.result + 1 + c.args.n)) c.peek-word.ensures.same
    ∙ ap (λ k. drop k c.args.self.now) {y = suc (ones c.args.self.now) + c.args.n} (omega (arith, c.ones_of-ones.ensures c.args.self.now c.peek-word.ensures.shows))
    ∙ sym (drop-drop c.args.n (suc (ones c.args.self.now)) c.args.self.now)
