use Rattle.gfx_surface.proofs.CopyLemmas.{opaque_alike}
use Rattle.gfx_surface.proofs.surface.Surface.put_opaque.Goals as goal

pub put_as-requires-clause-alike : goal.put_as-requires-clause-alike
put_as-requires-clause-alike c = opaque_alike c.args.self.now.format c.args.pixels.now c.requires.opaque
