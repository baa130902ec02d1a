use Rattle.gfx_dwt.proofs.SplitLevels.{transformed_is}
use Rattle.gfx_dwt.proofs.SplitBounds.{samples_within, bound_two, bound_three, bound_all}
use Rattle.gfx_dwt.proofs.analysis.forward_with.Goals as goal

pub split_in_plane-requires-2 : goal.split_in_plane-requires-2
split_in_plane-requires-2 c =
    bound_two c.args.transform _ (c.split_in_plane.ensures.within 8192 (samples_within _ c.requires))

pub split_in_plane-requires-3 : goal.split_in_plane-requires-3
split_in_plane-requires-3 c =
    bound_three c.args.transform _ (c.split_in_plane-2.ensures.within _ (c.split_in_plane.ensures.within 8192 (samples_within _ c.requires)))

pub returns-clause-coefficients : goal.returns-clause-coefficients
returns-clause-coefficients c =
    transformed_is c.args.transform c.args.plane.now c.split_in_plane.new.plane c.split_in_plane-2.new.plane c.split_in_plane-3.new.plane
    (record {
      first = c.split_in_plane.ensures.quarters;
      second = c.split_in_plane-2.ensures.quarters;
      second_keeps = c.split_in_plane-2.ensures.kept;
      third = c.split_in_plane-3.ensures.quarters;
      third_keeps = c.split_in_plane-3.ensures.kept;
    })

pub returns-clause-within : goal.returns-clause-within
returns-clause-within c =
    bound_all c.args.transform _ (c.split_in_plane-3.ensures.within _ (c.split_in_plane-2.ensures.within _ (c.split_in_plane.ensures.within 8192 (samples_within _ c.requires))))
