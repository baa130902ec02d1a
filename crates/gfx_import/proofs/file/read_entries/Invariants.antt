use Rattle.std.proofs.Common.{◌≡◌, ◌-◌, length}
use Rattle.gfx_layout.specs.Reading.{take_each, read}
use Rattle.gfx_layout.proofs.EachLoops.{with_others}
use Rattle.gfx_import.specs.File.{kept_entry}
use Rattle.gfx_import.proofs.file.read_entries.Given as goal

abbrev pub invariant-entries : goal.invariant-entries
invariant-entries l = record {
  read_so : with_others (read kept_entry) l.entries.items (l.count - l.counter) l.fields ≡ take_each (read kept_entry) l.count l.initial.fields;
  few : length l.entries.items ≡ l.counter;
}
