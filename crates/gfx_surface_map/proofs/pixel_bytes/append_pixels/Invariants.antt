use Rattle.std.proofs.Common.{length}
use Rattle.std.specs.List.{flat_map}
use Rattle.gfx_surface_map.specs.Composed.{pixel_bytes}
use Rattle.gfx_surface_map.proofs.BytesLemmas.{Put}
use Rattle.gfx_surface_map.proofs.pixel_bytes.append_pixels.Given as goal

abbrev pub invariant-pieces : goal.invariant-pieces
invariant-pieces l = Put l.fn.out l.out (flat_map pixel_bytes l.fn.pixels) (flat_map pixel_bytes l.rest)

abbrev pub decreases-pieces : goal.decreases-pieces
decreases-pieces l = length l.rest
