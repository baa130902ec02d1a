-- Segments behind their palette.
use Rattle.std.proofs.Common.{◌≡◌, ℕ, ◌*◌, ◌<◌, ◌≤◌, List, [], ◌∷◌, length, drop, zero, suc, refl, arith, length-append}
use Rattle.std.proofs.lemmas.Bool.{lt-ltb, le-ltb}
use Rattle.gfx_base.specs.declared.refusal.Refusal.TheVariants.{ClearLengths}
use Rattle.gfx_base.specs.declared.pixel.Rgb.{Rgb}
use Rattle.gfx_clear_runs.specs.Elements.{entry, entries, segment_at}
use Rattle.gfx_clear_runs.specs.Reading.{refused, part_of, segments_behind}

pub length-entries : (n : ℕ) (bytes : List ℕ) → length (entries n bytes) ≡ n
unfolding entries
length-entries zero bytes = refl
length-entries (suc n) bytes = omega (arith, length-append (entries n bytes) (entry bytes n ∷ []), length-entries n bytes)

pub cut_palette : (n : ℕ) (bytes : List ℕ) → length bytes < 3 * n → segments_behind n bytes ≡ refused ClearLengths
unfolding segments_behind
cut_palette n bytes cut = rw (lt-ltb (length bytes) (3 * n) cut) refl

pub whole_palette : (n : ℕ) (bytes : List ℕ) → 3 * n ≤ length bytes → segments_behind n bytes ≡ part_of (segment_at (entries n bytes)) (drop (3 * n) bytes)
unfolding segments_behind
whole_palette n bytes whole = rw (le-ltb (length bytes) (3 * n) whole) refl

pub segments_read : (n : ℕ) (bytes : List ℕ) (palette : List Rgb) (rest : List ℕ) → palette ≡ entries n bytes → rest ≡ drop (3 * n) bytes → 3 * n ≤ length bytes
    → segments_behind n bytes ≡ part_of (segment_at palette) rest
segments_read n bytes palette rest e f whole = rw (e, f) (whole_palette n bytes whole)
