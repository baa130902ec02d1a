use Rattle.gfx_report.specs.StateBytes.{surface_bytes}
use Rattle.gfx_report.proofs.TookLemmas.{Took-append}
use Rattle.gfx_report.proofs.hashing.add_surface.Goals as goal

pub returns : goal.returns
unfolding surface_bytes
returns c =
    let id = rw c.to_le_bytes.ensures at c.update.ensures in
    let sides = rw c.size-width.ensures.size at c.add_sides.ensures in
    let format = rw (c.byte.ensures, c.format.ensures) at c.update-2.ensures in
    Took-append _ _ _ _ _ id (Took-append _ _ _ _ _ sides (Took-append _ _ _ _ _ format c.add_rows.ensures))
