use Rattle.gfx_quant.proofs.Rests.{channel_small}
use Rattle.gfx_quant.proofs.greys.put_grey_row.Goals as goal

pub returns-clause-row : goal.returns-clause-row
returns-clause-row c = λ k h. c.join_halves.ensures.row k _ _ _ h (channel_small _ _) (channel_small _ _) (c.put_grey_halves.ensures.low k h) (c.put_grey_halves.ensures.high k h)
