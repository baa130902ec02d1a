use Rattle.gfx_quant.proofs.Bounds.{samples_within}
use Rattle.codec_tests.proofs.quant.there_and_back.Goals as goal

pub to_colours-requires-clause-y : goal.to_colours-requires-clause-y
to_colours-requires-clause-y c = samples_within _ c.from_colours.ensures.y

pub to_colours-requires-clause-cb : goal.to_colours-requires-clause-cb
to_colours-requires-clause-cb c = samples_within _ c.from_colours.ensures.cb

pub to_colours-requires-clause-cr : goal.to_colours-requires-clause-cr
to_colours-requires-clause-cr c = samples_within _ c.from_colours.ensures.cr
