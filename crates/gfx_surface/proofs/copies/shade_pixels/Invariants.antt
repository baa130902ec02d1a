use Rattle.std.proofs.Common.{◌≡◌, ◌<◌, ℕ, map, get_or}
use Rattle.gfx_base.specs.declared.pixel.Pixel.{Pixel}
use Rattle.gfx_base.specs.declared.format.Format.TheVariants.{Xrgb}
use Rattle.gfx_surface.specs.Picture.{shade}
use Rattle.gfx_surface.proofs.copies.shade_pixels.Given as goal

-- the first pixels are done
abbrev pub invariant-pixels : goal.invariant-pixels
invariant-pixels l = (k : ℕ) (d : Pixel) → k < l.i → get_or l.pixels k d ≡ get_or (map (shade Xrgb) l.from) k d
