-- How a picture is coded, as the value of a model has to be.
use Rattle.std.specs.Prelude.{ℕ, List, refl}
use Rattle.std.specs.Coded.{Coded, code_by, coded×, coded_ℕ, coded_list}
use Rattle.gfx_base.specs.declared.format.Format.{Format}
use Rattle.gfx_base.specs.Codes.{pixel_code, format_code}
use Rattle.gfx_base.specs.declared.pixel.Pixel.{Pixel}
use Rattle.gfx_surface.specs.Picture.{Picture}

-- a picture as its sides, its format and its pixels
abbrev pub picture_code : Coded Picture
picture_code =
    code_by (ℕ × (ℕ × (Format × List Pixel))) (coded× coded_ℕ (coded× coded_ℕ (coded× format_code (coded_list pixel_code))))
    (λ p. (p.width, (p.height, (p.format, p.pixels))))
    (λ t. record { width = t.0; height = t.1.0; format = t.1.1.0; pixels = t.1.1.1 }) (λ _. refl)
