-- Pictures of a screen's own bytes: this project's own rule.
use Rattle.std.specs.Prelude.{ℕ, ◌*◌, ◌==◌, List, length, Result, Ok}
use Rattle.gfx_base.specs.declared.format.Format.TheVariants.{Xrgb}
use Rattle.gfx_base.specs.Results.{◌>>=◌, check}
use Rattle.gfx_surface.specs.Picture.{raw_pixels}
use Rattle.gfx_script.specs.declared.error.ScriptKind.{ScriptKind}
use Rattle.gfx_script.specs.declared.error.ScriptKind.TheVariants.{Pixels, Range}
use Rattle.gfx_script.specs.declared.picture.Pattern.TheVariants.{Hex}
use Rattle.gfx_script.specs.declared.picture.Picture.{Picture}
use Rattle.gfx_script.specs.Pictures.{are_sides}

-- the picture of rows from the top, of which each pixel has four bytes: blue, green, red, and one that says nothing
unfoldable pub picture_from : ℕ → ℕ → List ℕ → Result Picture ScriptKind
picture_from width height rows = do
  drawn ← check Range (are_sides width height)
  whole ← check Pixels (length rows == 4 * (width * height))
  Ok record { width = width; height = height; pattern = Hex (raw_pixels Xrgb rows) }
