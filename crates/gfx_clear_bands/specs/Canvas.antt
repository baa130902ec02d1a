-- A canvas: pixels, of which those with alpha 255 are drawn. That is this project's own way to keep what is drawn.
use Rattle.std.specs.Prelude.{Bool, List, map}
use Rattle.gfx_base.specs.Colour.{colour_of, is_opaque}
use Rattle.gfx_base.specs.declared.pixel.Pixel.{Pixel}
use Rattle.gfx_clear_store.specs.Rings.{Rings}
use Rattle.gfx_clear_bands.specs.Bands.{Drawing, drawing}

-- an opaque pixel is drawn
abbrev pub is_drawn : Pixel → Bool
is_drawn pixel = is_opaque pixel

-- what a canvas shows, with the rings
abbrev pub on_canvas : List Pixel → Rings → Drawing
on_canvas canvas rings = drawing (map colour_of canvas) (map is_drawn canvas) rings
