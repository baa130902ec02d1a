use Rattle.std.proofs.Common.{◌≡◌, ◌++◌, ◌-◌, take}
use Rattle.std.specs.List.{flat_map}
use Rattle.gfx_import.specs.declared.limits.TheConstants.{MOST_ENTRIES}
use Rattle.gfx_import.specs.File.{entry_text}
use Rattle.gfx_import.proofs.file.put_entries.Given as goal

abbrev pub invariant-entries : goal.invariant-entries
invariant-entries l = l.out ≡ l.initial.out ++ flat_map entry_text (take l.place l.kept)

abbrev pub decreases-entries : goal.decreases-entries
decreases-entries l = MOST_ENTRIES - l.place
