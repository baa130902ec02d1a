use Rattle.std.proofs.Common.{◌≡◌, ◌++◌}
use Rattle.std.specs.List.{flat_map}
use Rattle.gfx_layout.specs.Shape.{text, number_alone, u16}
use Rattle.gfx_import.specs.Messages.{slots_of}
use Rattle.gfx_import.proofs.answering.put_slots.Given as goal

abbrev pub invariant-slots : goal.invariant-slots
invariant-slots l = l.out ≡ l.initial.out ++ flat_map (text (number_alone u16)) (slots_of l.index)
