use Rattle.std.proofs.Common.{◌∙◌, ◌++◌, ap}
use Rattle.gfx_bits.specs.Bits.{bits_of, digits}
use Rattle.gfx_bits.proofs.Writing.{on_err-always, taken-back}
use Rattle.gfx_bits.proofs.writer.BitWriter.settle.Goals as goal

pub returns-then-is_err-clause-err : goal.returns-then-is_err-clause-err
returns-then-is_err-clause-err c =
    on_err-always c.args.written _
    (λ bytes long gains.
    ap (λ items. bits_of items ++ digits c.args.held c.args.pending) c.truncate.ensures.items
    ∙ ap (λ b. b ++ digits c.args.held c.args.pending)
    (taken-back c.self.inside.bytes.items bytes c.args.self.now gains.0 c.self.inside.pending c.self.inside.count c.args.pending c.args.held c.args.whole
    c.self.invariant.0 c.requires.held c.self.invariant.2 c.requires.whole c.self.view_is long gains.1))
