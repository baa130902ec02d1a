-- How damage is kept.
use Rattle.std.specs.FinMap.{from_entries}
use Rattle.gfx_damage.specs.declared.damage.Damage.TheInside.{Inside}
use Rattle.gfx_damage.specs.Damage.{Damage}

-- the map that the entries stand for, and the rest
abbrev pub damage_of : Inside → Damage
damage_of a = record { ended = a.ended; whole = a.whole; marks = from_entries a.marks.entries }
