use Rattle.gfx_laws.proofs.Keeping.{bitmaps-as-kept, starting-bitmaps}
use Rattle.gfx_laws.proofs.wanted.bitmaps_are_as_kept.Goals as goal

pub returns-clause-kept : goal.returns-clause-kept
returns-clause-kept c = bitmaps-as-kept

pub returns-clause-started : goal.returns-clause-started
returns-clause-started c = starting-bitmaps
