-- The pixels of a picture of a script, as they are sent and as they show. Which pixels a picture has is said by its pattern
-- (gfx_script/specs/Patterns); that a ClearCodec stream has no alpha is [MS-RDPEGFX] 2.2.4.1.
use Rattle.std.specs.Prelude.{List, map}
use Rattle.gfx_base.specs.declared.pixel.Pixel.{Pixel}
use Rattle.gfx_base.specs.declared.pixel.Rgb.{Rgb}
use Rattle.gfx_base.specs.Colour.{colour_of, opaque}
use Rattle.gfx_surface.specs.Picture.{drawn}
use Rattle.gfx_script.specs.declared.picture.Picture.{Picture as Source}
use Rattle.gfx_script.specs.Patterns.{pixel_of}

-- its pixels, row by row from the top
unfoldable pub pixels_in : Source → List Pixel
pixels_in picture = drawn picture.width picture.height (pixel_of picture)

-- their colours, which are what a ClearCodec stream has
unfoldable pub colours_in : Source → List Rgb
colours_in picture = map colour_of (pixels_in picture)

-- its pixels as they show where it went by ClearCodec: opaque in their colours
abbrev pub opaque_in : Source → List Pixel
opaque_in picture = map opaque (colours_in picture)
