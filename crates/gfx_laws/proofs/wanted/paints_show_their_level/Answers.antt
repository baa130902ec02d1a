use Rattle.gfx_laws.proofs.Seeing.{passes-at-their-level}
use Rattle.gfx_laws.proofs.wanted.paints_show_their_level.Goals as goal

pub returns : goal.returns
returns c = passes-at-their-level
