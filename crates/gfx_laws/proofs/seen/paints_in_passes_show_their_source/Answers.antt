use Rattle.gfx_laws.proofs.Painted.{paints-show}
use Rattle.gfx_laws.proofs.seen.paints_in_passes_show_their_source.Goals as goal

pub returns : goal.returns
returns c = paints-show
