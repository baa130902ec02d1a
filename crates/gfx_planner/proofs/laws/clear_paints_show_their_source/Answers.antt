use Rattle.gfx_planner.proofs.ShownSources.{shows_sources}
use Rattle.gfx_planner.proofs.laws.clear_paints_show_their_source.Goals as goal

pub returns : goal.returns
returns c = shows_sources
