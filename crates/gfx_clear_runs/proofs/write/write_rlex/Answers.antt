-- Too many colours for a palette.
use Rattle.std.proofs.Common.{refl}
use Rattle.gfx_base.specs.Colour.{colours_of}
use Rattle.gfx_clear_runs.proofs.Collecting.{rlex_much}
use Rattle.gfx_clear_runs.proofs.write.write_rlex.Goals as goal

pub returns-in-None : goal.returns-in-None
returns-in-None c = (rlex_much (colours_of c.args.pixels.now) c.args.pixels.now c.in-None.ensures, refl)
