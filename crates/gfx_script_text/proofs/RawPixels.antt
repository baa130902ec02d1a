-- Pixels from their bytes, four at a time.
use Rattle.std.proofs.Common.{◌≡◌, ◌∙◌, ℕ, ◌+◌, ◌*◌, ◌/◌, ◌<◌, ◌≤◌, List, [], ◌∷◌, ◌++◌, length, drop, slice_index, refl, sym, ap, append_assoc, append-nil, arith}
use Rattle.std.proofs.lemmas.List.{drop_more, length-drop}
use Rattle.gfx_base.specs.declared.format.Format.TheVariants.{Argb}
use Rattle.gfx_base.specs.declared.pixel.Pixel.{Pixel}
use Rattle.gfx_surface.specs.Picture.{raw_pixels}

-- the four bytes from a place on as a pixel
abbrev pub pixel_from : List ℕ → ℕ → Pixel
pixel_from bytes at = record { b = slice_index bytes at; g = slice_index bytes (at + 1); r = slice_index bytes (at + 2); a = slice_index bytes (at + 3) }

from_here : (bytes : List ℕ) (at : ℕ) → at + 4 ≤ length bytes
    → drop at bytes ≡ slice_index bytes at ∷ slice_index bytes (at + 1) ∷ slice_index bytes (at + 2) ∷ slice_index bytes (at + 3) ∷ drop (at + 4) bytes
from_here bytes at within =
    let two : at + 1 + 1 ≡ at + 2 = omega arith in
    let three : at + 2 + 1 ≡ at + 3 = omega arith in
    let four : at + 3 + 1 ≡ at + 4 = omega arith in
    drop_more bytes at 0 (omega (arith, within))
    ∙ ap (λ rest. slice_index bytes at ∷ rest) (drop_more bytes (at + 1) 0 (omega (arith, within))
    ∙ ap (λ n. slice_index bytes (at + 1) ∷ drop n bytes) two
    ∙ ap (λ rest. slice_index bytes (at + 1) ∷ rest) (drop_more bytes (at + 2) 0 (omega (arith, within))
    ∙ ap (λ n. slice_index bytes (at + 2) ∷ drop n bytes) three
    ∙ ap (λ rest. slice_index bytes (at + 2) ∷ rest) (drop_more bytes (at + 3) 0 (omega (arith, within))
    ∙ ap (λ n. slice_index bytes (at + 3) ∷ drop n bytes) four)))

raw_from : (bytes : List ℕ) (at : ℕ) → at + 4 ≤ length bytes → raw_pixels Argb (drop at bytes) ≡ pixel_from bytes at ∷ raw_pixels Argb (drop (at + 4) bytes)
unfolding raw_pixels
raw_from bytes at within = ap (raw_pixels Argb) (from_here bytes at within)

raw_short : (bytes : List ℕ) → length bytes < 4 → raw_pixels Argb bytes ≡ []
unfolding raw_pixels
raw_short [] few = refl
raw_short (b ∷ []) few = refl
raw_short (b ∷ g ∷ []) few = refl
raw_short (b ∷ g ∷ r ∷ []) few = refl
raw_short (b ∷ g ∷ r ∷ a ∷ rest) few = absurd (omega (arith, few))

-- one more pixel is done
pub raw_next : (bytes : List ℕ) (at : ℕ) (done : List Pixel) (due : List Pixel) → at < length bytes / 4
    → due ≡ done ++ raw_pixels Argb (drop (4 * at) bytes) → due ≡ (done ++ pixel_from bytes (4 * at) ∷ []) ++ raw_pixels Argb (drop (4 * (at + 1)) bytes)
raw_next bytes at done due lt so_far =
    let within : 4 * at + 4 ≤ length bytes = omega (arith, lt) in
    let next : 4 * at + 4 ≡ 4 * (at + 1) = omega arith in
    so_far ∙ ap (λ rest. done ++ rest) (raw_from bytes (4 * at) within ∙ ap (λ n. pixel_from bytes (4 * at) ∷ raw_pixels Argb (drop n bytes)) next)
    ∙ sym (append_assoc done (pixel_from bytes (4 * at) ∷ []) (raw_pixels Argb (drop (4 * (at + 1)) bytes)))

-- all are done
pub raw_end : (bytes : List ℕ) (at : ℕ) (done : List Pixel) (due : List Pixel) → length bytes / 4 ≤ at
    → due ≡ done ++ raw_pixels Argb (drop (4 * at) bytes) → done ≡ due
raw_end bytes at done due past so_far =
    let left : length (drop (4 * at) bytes) < 4 = rw (length-drop (4 * at) bytes) (omega (arith, past)) in
    sym (so_far ∙ ap (λ rest. done ++ rest) (raw_short (drop (4 * at) bytes) left) ∙ append-nil done)
