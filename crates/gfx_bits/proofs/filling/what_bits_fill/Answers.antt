use Rattle.gfx_bits.proofs.Padding.{is-padded, padded-bytes, padded-is}
use Rattle.gfx_bits.proofs.filling.what_bits_fill.Goals as goal

pub returns-clause-filled : goal.returns-clause-filled
returns-clause-filled c = is-padded

pub returns-clause-bytes : goal.returns-clause-bytes
returns-clause-bytes c = padded-bytes

pub returns-clause-only : goal.returns-clause-only
returns-clause-only c = padded-is
