use Rattle.std.proofs.Common.{sym}
use Rattle.gfx_surface.proofs.CopyLemmas.{map-shade_argb}
use Rattle.gfx_surface.proofs.lending.keep.Goals as goal

pub returns-in-Argb : goal.returns-in-Argb
returns-in-Argb c = sym (map-shade_argb c.args.format c.args.pixels.now c.in-Argb.is)
