use Rattle.gfx_quant.proofs.Bounds.{coefficients_within}
use Rattle.codec_tests.proofs.quant.wide_colours_go_place_by_place.Goals as goal

pub to_colours-requires-clause-y : goal.to_colours-requires-clause-y
to_colours-requires-clause-y g c = coefficients_within _ c.cut_plane.ensures.small

pub to_colours-requires-clause-cb : goal.to_colours-requires-clause-cb
to_colours-requires-clause-cb g c = coefficients_within _ c.cut_plane.ensures.small

pub to_colours-requires-clause-cr : goal.to_colours-requires-clause-cr
to_colours-requires-clause-cr g c = coefficients_within _ c.cut_plane.ensures.small
