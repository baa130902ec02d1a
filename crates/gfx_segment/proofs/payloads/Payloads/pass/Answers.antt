use Rattle.std.proofs.Common.{drop, ap, ◌∙◌, arith}
use Rattle.gfx_segment.specs.Payloads.{Payloads}
use Rattle.gfx_segment.proofs.PayloadLemmas.{lying_passed}
use Rattle.gfx_segment.proofs.payloads.Payloads.pass.Goals as goal

pub returns-then-at-count : goal.returns-then-at-count
returns-then-at-count c =
    let splitter = c.self.inside.splitter in
    ap (λ z. let it : Payloads = record { splitter = record splitter { rest = drop c.in-Lying.whole splitter.rest }; left = z } in it)
    (lying_passed splitter.rest c.in-Lying.at c.args.count c.in-Lying.whole (let less = c.if-at-count.true in omega arith))
    ∙ ap (λ (z : Payloads). record z { left = drop c.args.count z.left }) (rw c.in-Lying.is at c.self.view_is)
