-- How surfaces are kept by their ids.
use Rattle.std.specs.Prelude.{ℕ, ◌<◌, ◌^◌, IsSome}
use Rattle.std.specs.FinMap.{from_entries, get}
use Rattle.gfx_surface_map.specs.declared.table.Table.TheInside.{Inside}
use Rattle.gfx_surface_map.specs.Surfaces.{Surfaces}

-- the map that the entries stand for
abbrev pub surfaces_of : Inside → Surfaces
surfaces_of a = from_entries a.surfaces.entries

-- every id fits its field on the wire
abbrev pub AreIds : Surfaces → Type 0
AreIds surfaces = (id : ℕ) → IsSome (get surfaces id) → id < 2 ^ 16

-- the same of the fields
abbrev pub HasIds : Inside → Type 0
HasIds a = AreIds (surfaces_of a)
