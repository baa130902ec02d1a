use Rattle.gfx_laws.proofs.Pictures.{pictures-wanted}
use Rattle.gfx_laws.proofs.Premising.{goes-from-kept, goes-from-nothing, paints-lie}
use Rattle.gfx_laws.proofs.wanted.premises_hold.Goals as goal

pub returns-clause-from_nothing : goal.returns-clause-from_nothing
returns-clause-from_nothing c = goes-from-nothing

pub returns-clause-from_kept : goal.returns-clause-from_kept
returns-clause-from_kept c = goes-from-kept

pub returns-clause-pictures : goal.returns-clause-pictures
returns-clause-pictures c = pictures-wanted

pub returns-clause-paints : goal.returns-clause-paints
returns-clause-paints c = paints-lie
