use Rattle.std.proofs.Common.{◌∙◌, sym}
use Rattle.gfx_surface.proofs.CopyLemmas.{map-shade_argb}
use Rattle.gfx_surface.proofs.copies.keep_pixels.Goals as goal

pub returns-in-Argb : goal.returns-in-Argb
returns-in-Argb c = c.copy_from_slice.ensures.after ∙ sym (map-shade_argb c.args.format c.args.from.now c.in-Argb.is)
