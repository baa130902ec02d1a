use Rattle.std.proofs.Common.{◌≡◌, ◌-◌}
use Rattle.gfx_layout.specs.Reading.{take_each, read}
use Rattle.gfx_layout.proofs.EachLoops.{with_others}
use Rattle.gfx_caps.specs.Layouts.{caps_set}
use Rattle.gfx_caps.proofs.reading.read_sets.Given as goal

abbrev pub invariant-sets : goal.invariant-sets
invariant-sets l = with_others (read caps_set) l.sets (l.count - l.counter) l.fields ≡ take_each (read caps_set) l.count l.initial.fields
