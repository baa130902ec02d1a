-- What the definitions say of small pictures, of a decoder that holds little, and of one message.
use Rattle.std.proofs.Common.{◌≡◌, ℕ, [], ◌∷◌, Some, None, refl}
use Rattle.std.specs.Prelude.{codes}
use Rattle.gfx_base.specs.declared.format.Format.TheVariants.{Xrgb, Argb}
use Rattle.std.specs.Fmt.{digits}
use Rattle.hex.specs.Hex.{encode_with}
use Rattle.gfx_pdu.specs.declared.id.Id.TheVariants.{StartFrame}
use Rattle.gfx_base.specs.declared.pixel.Rgb.{Rgb}
use Rattle.gfx_glyph.specs.Glyphs.{glyph}
use Rattle.gfx_report.specs.StateBytes.{ring_bytes, glyphs_bytes}
use Rattle.gfx_report.specs.Audit.{audit_line, key_digits, places_held, glyphs_held}
use Rattle.gfx_report.specs.Texts.{surface_line, row_line, rows_text, surface_text, trial_text}

-- a colour
abbrev rgb : ℕ → ℕ → ℕ → Rgb
rgb b g r = record { b = b; g = g; r = r }

pub one_row : surface_text 1 (record { width = 2; height = 1; format = Xrgb; pixels = record { b = 0; g = 0; r = 255; a = 255 } ∷ record { b = 0; g = 0; r = 255; a = 255 } ∷ [] }) ≡ codes "surface 1 2x1 xrgb\n0000ffff0000ffff\n"
unfolding surface_text surface_line rows_text row_line digits encode_with
one_row = refl

pub two_rows : surface_text 300 (record { width = 1; height = 2; format = Argb; pixels = record { b = 26; g = 178; r = 9; a = 127 } ∷ record { b = 0; g = 0; r = 0; a = 0 } ∷ [] }) ≡ codes "surface 300 1x2 argb\n1ab2097f\n00000000\n"
unfolding surface_text surface_line rows_text row_line digits encode_with
two_rows = refl

-- one column behind a place that was never written
pub one_column : ring_bytes 0 (None ∷ Some (rgb 1 2 3 ∷ rgb 4 5 6 ∷ []) ∷ []) ≡ 1 ∷ 0 ∷ 2 ∷ 1 ∷ 2 ∷ 3 ∷ 4 ∷ 5 ∷ 6 ∷ []
unfolding ring_bytes
one_column = refl

-- a glyph of two pixels, one over the other
pub one_glyph : glyphs_bytes 2 (None ∷ Some (glyph 1 2 (rgb 1 2 3 ∷ rgb 4 5 6 ∷ [])) ∷ []) ≡ 1 ∷ 0 ∷ 1 ∷ 0 ∷ 2 ∷ 0 ∷ 1 ∷ 2 ∷ 3 ∷ 4 ∷ 5 ∷ 6 ∷ []
unfolding glyphs_bytes
one_glyph = refl

-- the places that hold something are counted, and an empty column is something
pub two_of_four : places_held (None ∷ Some [] ∷ None ∷ Some (rgb 1 2 3 ∷ []) ∷ []) ≡ 2
two_of_four = refl

-- and so are the indices
pub one_of_two : glyphs_held 2 (None ∷ Some (glyph 1 1 (rgb 1 2 3 ∷ [])) ∷ []) ≡ 1
unfolding glyphs_held
one_of_two = refl

-- a key begins with its highest digit
pub one_key : key_digits 0x0123456789abcdef ≡ codes "0123456789abcdef"
unfolding encode_with
one_key = refl

pub one_message : audit_line 1 StartFrame 16 ≡ codes "1 StartFrame 16\n"
unfolding audit_line digits
one_message = refl

pub one_trial : trial_text 1 7 402 ≡ codes "trial 1 acks 7 step 402"
unfolding digits
one_trial = refl
