use Rattle.std.proofs.Common.{◌∙◌, ap, arith}
use Rattle.gfx_bits.specs.Bits.{number}
use Rattle.gfx_bits.proofs.Ahead.{ahead-shows, eight_bytes, filled-shows}
use Rattle.gfx_bits.proofs.reader.BitReader.peek.Goals as goal

pub returns-then-self-n-clause-shows : goal.returns-then-self-n-clause-shows
returns-then-self-n-clause-shows c =
    ahead-shows c.self.inside.ahead c.self.inside.count c.args.n c.self.inside.rest.now (omega arith) c.self.invariant c.requires (λ h. absurd (omega arith))
    ∙ ap (number c.args.n) c.self.view_is

pub returns-then-self-lt-WORD-clause-shows : goal.returns-then-self-lt-WORD-clause-shows
returns-then-self-lt-WORD-clause-shows c =
    ahead-shows c.last_bits-ahead.result.0 c.last_bits-ahead.result.1 c.args.n c.last_bits-ahead.result.2.now (omega arith) c.last_bits-ahead.ensures.ahead c.requires (λ h. c.last_bits-ahead.ensures.enough (omega arith))
    ∙ ap (number c.args.n) (c.last_bits-ahead.ensures.same ∙ c.self.view_is)

pub invariant_of-self-2 : goal.invariant_of-self-2
invariant_of-self-2 c = (eight_bytes c.self.inside.ahead c.self.inside.count c.first_word-word.result c.self.inside.rest.now (omega arith) c.self.invariant (omega arith) c.first_word-word.ensures).1

pub returns-clause-shows : goal.returns-clause-shows
returns-clause-shows c =
    filled-shows c.self.inside.ahead c.self.inside.count c.first_word-word.result c.args.n c.self.inside.rest.now (omega arith) c.self.invariant (omega arith) c.first_word-word.ensures (omega (arith, c.requires)) c.requires
    ∙ ap (number c.args.n) c.self.view_is

pub returns-clause-same : goal.returns-clause-same
returns-clause-same c =
    (eight_bytes c.self.inside.ahead c.self.inside.count c.first_word-word.result c.self.inside.rest.now (omega arith) c.self.invariant (omega arith) c.first_word-word.ensures).0
    ∙ c.self.view_is
