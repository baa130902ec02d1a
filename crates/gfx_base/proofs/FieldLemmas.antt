-- Little-endian fields: what is read is spelled so, what is spelled is read, and bytes behind change nothing.
use Rattle.std.proofs.Common.{◌≡◌, ℕ, ◌+◌, ◌≤◌, ◌<◌, ◌^◌, List, [], ◌∷◌, ◌++◌, length, get_or, take, drop, zero, suc, inl, inr, refl, sym, ap, ◌∙◌, arith, length-drop}
use Rattle.std.specs.Int.{Width, w16, w32, w64, byte_len, to_le_bytes, from_le_bytes}
use Rattle.std.proofs.lemmas.List.{take-append-le, drop-append-le, get_or-take, get_or-drop, get_or_past, length-take}
use Rattle.std.proofs.lemmas.Bool.{cases_lt}
use Rattle.std.proofs.Math.Seq.{take-append_seam, drop-append_seam}
use Rattle.std.proofs.lemmas.Nat.{le_bytes_2, le_bytes_4, le_bytes_8, from_le_bytes-to_le_bytes_2, from_le_bytes-to_le_bytes_4, from_le_bytes-to_le_bytes_8}
use Rattle.gfx_base.specs.Field.{number_at, IsBytes}

pub IsBytes-take : (n : ℕ) (bytes : List ℕ) → IsBytes bytes → IsBytes (take n bytes)
IsBytes-take n bytes all i =
    elim (cases_lt i n) as (λ _. get_or (take n bytes) i 0 < 256) [
      | inl below ↦ rw (get_or-take n bytes i 0 below) (all i)
      | inr past ↦ let short : length (take n bytes) ≤ i = omega (arith, length-take n bytes) in rw (get_or_past (take n bytes) i 0 short) (omega arith)
    ]

pub IsBytes-drop : (n : ℕ) (bytes : List ℕ) → IsBytes bytes → IsBytes (drop n bytes)
IsBytes-drop n bytes all i = rw (get_or-drop n bytes i 0) (all (n + i))

pub IsBytes-append : (xs ys : List ℕ) → IsBytes xs → IsBytes ys → IsBytes (xs ++ ys)
IsBytes-append [] ys all_x all_y i = all_y i
IsBytes-append (x ∷ xs) ys all_x all_y zero = all_x zero
IsBytes-append (x ∷ xs) ys all_x all_y (suc i) = IsBytes-append xs ys (λ j. all_x (suc j)) all_y i

-- what stands behind a front, and before more
between : (front text more : List ℕ) (n : ℕ) → length text ≡ n → take n (drop (length front) (front ++ (text ++ more))) ≡ text
between front text more n e = rw (drop-append_seam front (text ++ more), sym e) (take-append_seam text more)

pub number_at-written_2 : (front more : List ℕ) (n : ℕ) → n < 2 ^ 16 → number_at w16 (front ++ (to_le_bytes w16 n ++ more)) (length front) ≡ n
number_at-written_2 front more n fits = ap (from_le_bytes w16) (between front (to_le_bytes w16 n) more 2 refl) ∙ from_le_bytes-to_le_bytes_2 n fits

pub number_at-written_4 : (front more : List ℕ) (n : ℕ) → n < 2 ^ 32 → number_at w32 (front ++ (to_le_bytes w32 n ++ more)) (length front) ≡ n
number_at-written_4 front more n fits = ap (from_le_bytes w32) (between front (to_le_bytes w32 n) more 4 refl) ∙ from_le_bytes-to_le_bytes_4 n fits

pub number_at-written_8 : (front more : List ℕ) (n : ℕ) → n < 2 ^ 64 → number_at w64 (front ++ (to_le_bytes w64 n ++ more)) (length front) ≡ n
number_at-written_8 front more n fits = ap (from_le_bytes w64) (between front (to_le_bytes w64 n) more 8 refl) ∙ from_le_bytes-to_le_bytes_8 n fits

length_piece : (bytes : List ℕ) (at k : ℕ) → at + k ≤ length bytes → length (take k (drop at bytes)) ≡ k
length_piece bytes at k within = simp (length-take, length-drop) (omega arith)

-- what is read is spelled so
pub number_at-read_2 : (bytes : List ℕ) (at : ℕ) → IsBytes bytes → at + 2 ≤ length bytes → to_le_bytes w16 (number_at w16 bytes at) ≡ take 2 (drop at bytes)
number_at-read_2 bytes at all within = le_bytes_2 (take 2 (drop at bytes)) _ (length_piece bytes at 2 within) (IsBytes-take 2 (drop at bytes) (IsBytes-drop at bytes all)) refl

pub number_at-read_4 : (bytes : List ℕ) (at : ℕ) → IsBytes bytes → at + 4 ≤ length bytes → to_le_bytes w32 (number_at w32 bytes at) ≡ take 4 (drop at bytes)
number_at-read_4 bytes at all within = le_bytes_4 (take 4 (drop at bytes)) _ (length_piece bytes at 4 within) (IsBytes-take 4 (drop at bytes) (IsBytes-drop at bytes all)) refl

pub number_at-read_8 : (bytes : List ℕ) (at : ℕ) → IsBytes bytes → at + 8 ≤ length bytes → to_le_bytes w64 (number_at w64 bytes at) ≡ take 8 (drop at bytes)
number_at-read_8 bytes at all within = le_bytes_8 (take 8 (drop at bytes)) _ (length_piece bytes at 8 within) (IsBytes-take 8 (drop at bytes) (IsBytes-drop at bytes all)) refl

-- bytes behind a field change nothing
pub number_at-append : (width : Width) (bytes more : List ℕ) (at : ℕ) → at + byte_len width ≤ length bytes → number_at width (bytes ++ more) at ≡ number_at width bytes at
number_at-append width bytes more at within =
    let reached : at ≤ length bytes = omega arith in
    let enough : byte_len width ≤ length (drop at bytes) = omega (arith, length-drop at bytes) in
    ap (λ z. from_le_bytes width (take (byte_len width) z)) (drop-append-le at bytes more reached)
    ∙ ap (from_le_bytes width) (take-append-le (byte_len width) (drop at bytes) more enough)
