use Rattle.std.proofs.Common.{◌*◌, ◌/◌, ◌∙◌, ap, ◌^◌, arith}
use Rattle.std.specs.Int
use Rattle.std.specs.Int.{w64}
use Rattle.std.proofs.lemmas.Nat.{shl_whole}
use Rattle.gfx_bits.proofs.Laws.{ones_at_top}
use Rattle.gfx_rlgr.proofs.pair_reader.ones_of.Goals as goal

pub returns : goal.returns
returns c bits is =
    c.leading_ones.ensures
    ∙ ap (λ w. Int.leading_ones w64 w) (shl_whole (c.args.word / 2 ^ 7) 57 7 64 (omega arith) (omega arith) ∙ ap (λ w. w * 2 ^ 7) is)
    ∙ ones_at_top 57 bits (omega arith)
