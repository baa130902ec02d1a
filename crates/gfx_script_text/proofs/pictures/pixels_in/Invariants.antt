use Rattle.std.proofs.Common.{◌≡◌, ◌*◌, ◌++◌, drop}
use Rattle.gfx_base.specs.declared.format.Format.TheVariants.{Argb}
use Rattle.gfx_surface.specs.Picture.{raw_pixels}
use Rattle.gfx_script_text.proofs.pictures.pixels_in.Given as goal

abbrev pub invariant-pixels : goal.invariant-pixels
invariant-pixels l = raw_pixels Argb l.bytes ≡ l.pixels.items ++ raw_pixels Argb (drop (4 * l.i) l.bytes)
