-- How a kept plane stands in memory.
use Rattle.std.specs.Prelude.{◌≡◌, ◌≤◌, ◌⊎◌, true, length}
use Rattle.std.specs.Vec.{vec_capacity}
use Rattle.gfx_tile_state.specs.declared.kept.Kept.TheInside.{Inside}

-- all numbers are there, or none of them counts and there is room for all
abbrev pub HasRoom : Inside → Type 0
HasRoom kept = (length kept.plane.items ≡ 4096) ⊎ ((kept.blank ≡ true) × (4096 ≤ vec_capacity kept.plane))
