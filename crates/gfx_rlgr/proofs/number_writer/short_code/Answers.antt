use Rattle.std.proofs.Common.{◌∙◌, ◌+◌, ◌%◌, ◌^◌, ap, arith}
use Rattle.std.proofs.lemmas.Nat.{pow_pos}
use Rattle.gfx_bits.specs.Bits.{digits}
use Rattle.gfx_rlgr.proofs.Codes.{short-made, short-digits, short-below}
use Rattle.gfx_rlgr.proofs.number_writer.short_code.Goals as goal

pub returns-clause-bits : goal.returns-clause-bits
returns-clause-bits c =
    ap (digits (c.args.ones + 1 + c.args.low)) (short-made c.args.ones c.args.low c.args.number c.requires.ones c.requires.low)
    ∙ short-digits c.args.ones c.args.low (c.args.number % 2 ^ c.args.low) (omega (arith, pow_pos c.args.low))

pub returns-clause-below : goal.returns-clause-below
returns-clause-below c =
    rw (short-made c.args.ones c.args.low c.args.number c.requires.ones c.requires.low)
    (short-below c.args.ones c.args.low (c.args.number % 2 ^ c.args.low) (omega (arith, pow_pos c.args.low)))
