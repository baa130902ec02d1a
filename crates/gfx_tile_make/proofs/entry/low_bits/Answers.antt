use Rattle.std.proofs.Common.{◌∙◌, ◌-◌, ap, arith}
use Rattle.std.specs.Prelude.{bit_and}
use Rattle.std.proofs.lemmas.Nat.{and_mask, one_shl}
use Rattle.gfx_tile_make.proofs.entry.low_bits.Goals as goal

pub returns-clause-value : goal.returns-clause-value
returns-clause-value c = ap (λ m. bit_and c.args.number (m - 1)) (one_shl c.args.n 32 (omega arith)) ∙ and_mask c.args.number c.args.n
