-- How what is held is kept.
use Rattle.std.specs.Prelude.{◌≤◌, ◌++◌, replicate}
use Rattle.std.specs.FinMap.{from_entries}
use Rattle.gfx_surface_map.specs.declared.TheConstants.{MOST_CELLS}
use Rattle.gfx_script.specs.declared.held.Held.TheInside as held
use Rattle.gfx_script.specs.declared.stock.Stock.TheInside as stock
use Rattle.gfx_script.specs.Checks.{Held}
use Rattle.gfx_script.specs.Drafts.{sides_of}
use Rattle.gfx_script.specs.Forgetting.{blank}
use Rattle.gfx_script.specs.Stock.{Stock}

-- the plan, and the map that the entries stand for
abbrev pub stock_of : stock.Inside → Stock
stock_of a = record { plan = a.plan; sides = from_entries a.sides.entries }

-- blank sides for those that are forgotten before the others, the map that the entries stand for, the count and the rest
abbrev pub held_of : held.Inside → Held
held_of a = record { pictures = replicate a.forgotten (sides_of blank) ++ a.pictures.items; sides = from_entries a.sides.entries; cells = a.cells; stock = a.stock }

-- the count is within its limit
abbrev pub IsWithinLimit : held.Inside → Type 0
IsWithinLimit a = a.cells ≤ MOST_CELLS
