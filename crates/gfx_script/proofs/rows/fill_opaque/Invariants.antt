use Rattle.std.proofs.Common.{◌≡◌, ◌<◌, ℕ, get_or}
use Rattle.gfx_base.specs.declared.format.Format.TheVariants.{Xrgb}
use Rattle.gfx_base.specs.declared.pixel.Pixel.{Pixel}
use Rattle.gfx_surface.specs.Picture.{raw_pixels}
use Rattle.gfx_script.proofs.rows.fill_opaque.Given as goal

-- the first pixels are done
abbrev pub invariant-pixels : goal.invariant-pixels
invariant-pixels l = (k : ℕ) (d : Pixel) → k < l.i → get_or l.pixels k d ≡ get_or (raw_pixels Xrgb l.bytes) k d
