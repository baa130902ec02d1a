use Rattle.std.proofs.Common.{◌∙◌, sym, arith}
use Rattle.gfx_bits.proofs.Laws.{number-64}
use Rattle.gfx_bits.proofs.reader.first_word.Goals as goal

pub returns : goal.returns
returns c = c.from_be_bytes.ensures ∙ sym (number-64 c.args.bytes.now (λ i. omega (arith, c.type_inv.bytes i)))
