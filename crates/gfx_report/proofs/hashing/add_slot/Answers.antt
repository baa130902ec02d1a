use Rattle.gfx_report.specs.StateBytes.{slot_bytes}
use Rattle.gfx_report.proofs.TookLemmas.{Took-append}
use Rattle.gfx_report.proofs.hashing.add_slot.Goals as goal

pub returns : goal.returns
unfolding slot_bytes
returns c =
    let slot = rw c.to_le_bytes.ensures at c.update.ensures in
    let key = rw c.to_le_bytes-2.ensures at c.update-2.ensures in
    let pixels = rw c.as_slice.ensures at c.add_pixels.ensures in
    Took-append _ _ _ _ _ slot (Took-append _ _ _ _ _ key (Took-append _ _ _ _ _ c.add_sides.ensures pixels))
