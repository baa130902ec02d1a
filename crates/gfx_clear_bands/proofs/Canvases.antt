-- Pixels of a canvas, one after another.
use Rattle.std.proofs.Common.{◌≡◌, ℕ, ◌+◌, ◌<◌, List, length, map, drop, set, get_or, ap, ◌∙◌}
use Rattle.std.proofs.lemmas.List.{map-set}
use Rattle.gfx_base.specs.declared.pixel.Pixel.{Pixel}
use Rattle.gfx_base.specs.declared.pixel.Rgb.{Rgb}
use Rattle.gfx_clear_store.specs.Rings.{Rings}
use Rattle.gfx_clear_bands.specs.Bands.{drawing, drawn_down}
use Rattle.gfx_clear_bands.specs.Canvas.{is_drawn, on_canvas}
use Rattle.gfx_base.specs.Colour.{opaque, colour_of}
use Rattle.gfx_clear_bands.proofs.Drawings.{draw_step}

-- one pixel more
pub canvas_step : (width at i : ℕ) (colours : List Rgb) (canvas : List Pixel) (pixel : Pixel) (held : Rings) (d : Rgb) → i < length colours → pixel ≡ opaque (get_or colours i d)
    → drawn_down width (at + width) (drop (i + 1) colours) (on_canvas (set canvas at pixel) held) ≡ drawn_down width at (drop i colours) (on_canvas canvas held)
canvas_step width at i colours canvas pixel held d within e =
    ap (λ p. drawn_down width (at + width) (drop (i + 1) colours) (on_canvas (set canvas at p) held)) e
    ∙ (λ k. drawn_down width (at + width) (drop (i + 1) colours) (drawing (map-set colour_of canvas at (opaque (get_or colours i d)) k) (map-set is_drawn canvas at (opaque (get_or colours i d)) k) held))
    ∙ draw_step width at i colours (map colour_of canvas) (map is_drawn canvas) held d within
