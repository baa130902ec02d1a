use Rattle.std.proofs.Common.{◌≡◌, ◌*◌, ◌++◌, take, drop}
use Rattle.std.specs.List.{flat_map}
use Rattle.gfx_surface_map.specs.Composed.{pixel_bytes}
use Rattle.gfx_surface_map.proofs.pixel_bytes.fill_bytes.Given as goal

-- the first pixels have their bytes
abbrev pub invariant-pixels : goal.invariant-pixels
invariant-pixels l = take (4 * l.i) l.bytes ++ flat_map pixel_bytes (drop l.i l.pixels) ≡ flat_map pixel_bytes l.pixels
