use Rattle.gfx_layout.specs.Shape.{text, number_alone, u16}
use Rattle.gfx_import.proofs.WritingLemmas.{slot_put}
use Rattle.gfx_import.proofs.answering.put_slots.Goals as goal

pub slots-preserved : goal.slots-preserved
slots-preserved c = slot_put (text (number_alone u16)) c.slots.index _ _ _ c.slots.invariant c.in_ok-put.ensures.ok
