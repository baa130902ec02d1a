use Rattle.gfx_surface.proofs.CopyLemmas.{opaque_alike}
use Rattle.gfx_surface.proofs.surface.Surface.put_opaque_cell.Goals as goal

pub put_cell_as-requires-clause-alike : goal.put_cell_as-requires-clause-alike
put_cell_as-requires-clause-alike c = opaque_alike c.args.self.now.format c.args.pixels.now c.requires.opaque
