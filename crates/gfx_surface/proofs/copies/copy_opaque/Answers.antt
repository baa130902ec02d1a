use Rattle.std.proofs.Common.{◌∙◌, sym}
use Rattle.gfx_surface.proofs.CopyLemmas.{opaque_as_they_are}
use Rattle.gfx_surface.proofs.copies.copy_opaque.Goals as goal

pub returns-then-are_opaque : goal.returns-then-are_opaque
returns-then-are_opaque c = c.copy_from_slice.ensures.after ∙ sym (opaque_as_they_are c.args.from.now (c.are_opaque.ensures c.if-are_opaque.true))
