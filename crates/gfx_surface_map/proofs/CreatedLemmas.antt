-- When a surface is made.
use Rattle.std.proofs.Common.{◌≡◌, true, false, not, ℕ, Ok}
use Rattle.std.specs.FinMap.{contains_key, insert}
use Rattle.gfx_base.specs.declared.format.Format.{Format}
use Rattle.gfx_base.specs.declared.refusal.Refusal.TheVariants.{SurfaceExists, SurfaceSize, SurfaceBudget}
use Rattle.gfx_base.specs.Results.{and_then, check}
use Rattle.gfx_surface.specs.Picture.{blank}
use Rattle.gfx_surface_map.specs.Surfaces.{Surfaces, created, is_size, fits_beside}

-- a new id, sides in range and room are enough
pub created-ok : (surfaces : Surfaces) (id width height : ℕ) (format : Format) → contains_key surfaces id ≡ false → is_size width height ≡ true
    → fits_beside surfaces width height ≡ true → created surfaces id width height format ≡ Ok (insert surfaces id (blank width height format))
unfolding created and_then
created-ok surfaces id width height format fresh sides room =
    λ i. and_then (check SurfaceExists (not (fresh i))) (λ _. and_then (check SurfaceSize (sides i)) (λ _.
    and_then (check SurfaceBudget (room i)) (λ _. Ok (insert surfaces id (blank width height format)))))
