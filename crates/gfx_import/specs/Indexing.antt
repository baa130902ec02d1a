-- What comes of entries that are put in by their keys, one after another.
use Rattle.std.specs.Prelude.{◌≡◌, List, Result, Ok, Err}
use Rattle.gfx_base.specs.Results.{check}
use Rattle.gfx_base.specs.declared.answer.Cause.{Cause}
use Rattle.gfx_base.specs.declared.answer.Cause.TheVariants.{Refused, Memory}
use Rattle.gfx_base.specs.declared.refusal.Refusal.TheVariants.{KeptShape}
use Rattle.gfx_layout.specs.declared.stop.Stop.{Stop}
use Rattle.gfx_layout.specs.declared.stop.Stop.TheVariants.{Rule}
use Rattle.gfx_bitmap_cache.specs.Slots.{Entry}
use Rattle.gfx_import.specs.Entries.{entry_keys, are_distinct}

-- no key may be there twice
abbrev pub distinct : List Entry → Result (Unit {0}) Stop
distinct entries = check (Rule KeptShape) (are_distinct (entry_keys entries))

-- they are kept in their order, or a key is there twice
abbrev pub Indexes : List Entry → Result (List Entry) (Cause Stop) → Type 0
Indexes entries (Ok kept) = (distinct entries ≡ Ok tt) × (kept ≡ entries)
Indexes entries (Err Memory) = Unit {0}
Indexes entries (Err (Refused stop)) = distinct entries ≡ Err stop
