-- How pixels, rectangles and formats are coded, as the values of models have to be.
use Rattle.std.specs.Prelude.{◌≡◌, ℕ, Bool, true, false, refl}
use Rattle.std.specs.Coded.{Coded, code_by, coded×, coded_ℕ, coded_bool}
use Rattle.gfx_base.specs.declared.format.Format.{Format}
use Rattle.gfx_base.specs.declared.format.Format.TheVariants.{Xrgb, Argb}
use Rattle.gfx_base.specs.declared.geometry.Rect.{Rect}
use Rattle.gfx_base.specs.declared.pixel.Pixel.{Pixel}

-- a pixel as its four numbers
abbrev pub pixel_code : Coded Pixel
pixel_code =
    code_by (ℕ × (ℕ × (ℕ × ℕ))) (coded× coded_ℕ (coded× coded_ℕ (coded× coded_ℕ coded_ℕ)))
    (λ p. (p.b, (p.g, (p.r, p.a)))) (λ t. record { b = t.0; g = t.1.0; r = t.1.1.0; a = t.1.1.1 }) (λ _. refl)

-- a rectangle as its four edges
abbrev pub rect_code : Coded Rect
rect_code =
    code_by (ℕ × (ℕ × (ℕ × ℕ))) (coded× coded_ℕ (coded× coded_ℕ (coded× coded_ℕ coded_ℕ)))
    (λ r. (r.left, (r.top, (r.right, r.bottom)))) (λ t. record { left = t.0; top = t.1.0; right = t.1.1.0; bottom = t.1.1.1 }) (λ _. refl)

-- whether a format keeps alpha
abbrev keeps_alpha : Format → Bool
keeps_alpha Xrgb = false
keeps_alpha Argb = true

-- the format that keeps alpha, or doesn't
abbrev format_by_alpha : Bool → Format
format_by_alpha false = Xrgb
format_by_alpha true = Argb

-- which is all that a format says
abbrev same_format : (format : Format) → format_by_alpha (keeps_alpha format) ≡ format
same_format Xrgb = refl
same_format Argb = refl

-- a format is stored as whether it keeps alpha
abbrev pub format_code : Coded Format
format_code = code_by Bool coded_bool keeps_alpha format_by_alpha same_format
