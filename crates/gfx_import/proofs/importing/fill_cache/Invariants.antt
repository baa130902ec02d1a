use Rattle.std.proofs.Common.{◌≡◌, take}
use Rattle.gfx_bitmap_cache.specs.Slots.{cached}
use Rattle.gfx_import.specs.Imported.{imported}
use Rattle.gfx_import.specs.Started.{in_slots}
use Rattle.gfx_import.proofs.importing.fill_cache.Given as goal

abbrev pub invariant-entries : goal.invariant-entries
invariant-entries l = l.cache ≡ cached (in_slots (take l.place (imported l.server l.client l.small))) l.small
