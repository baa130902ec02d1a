-- The parts that stand in many messages ([MS-RDPEGFX] 2.2.1).
use Rattle.std.specs.Prelude.{[], ◌∷◌, refl}
use Rattle.gfx_base.specs.declared.geometry.Point.{Point}
use Rattle.gfx_base.specs.declared.geometry.Rect.{Rect}
use Rattle.gfx_base.specs.declared.pixel.Pixel.{Pixel}
use Rattle.gfx_layout.specs.Shape.{Shape, u8, u16}

-- RDPGFX_COLOR32: blue, green, red, and alpha or an unused byte
abbrev pub pixel : Shape Pixel
pixel = record {
  sizes = u8 ∷ u8 ∷ u8 ∷ u8 ∷ [];
  row = λ p. (p.b, (p.g, (p.r, (p.a, tt))));
  of_row = λ t. record { b = t.0; g = t.1.0; r = t.1.1.0; a = t.1.1.1.0 };
  there = λ p. refl;
  back = λ t. refl;
}

-- RDPGFX_POINT16
abbrev pub point : Shape Point
point = record {
  sizes = u16 ∷ u16 ∷ [];
  row = λ p. (p.x, (p.y, tt));
  of_row = λ t. record { x = t.0; y = t.1.0 };
  there = λ p. refl;
  back = λ t. refl;
}

-- RDPGFX_RECT16
abbrev pub rect : Shape Rect
rect = record {
  sizes = u16 ∷ u16 ∷ u16 ∷ u16 ∷ [];
  row = λ r. (r.left, (r.top, (r.right, (r.bottom, tt))));
  of_row = λ t. record { left = t.0; top = t.1.0; right = t.1.1.0; bottom = t.1.1.1.0 };
  there = λ r. refl;
  back = λ t. refl;
}
