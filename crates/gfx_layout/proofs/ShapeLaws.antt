-- Parts of fixed size: what is spelled is read, what is read is spelled so and fits.
use Rattle.std.proofs.Common.{◌≡◌, ℕ, zero, suc, ◌+◌, ◌*◌, ◌≤◌, List, [], ◌∷◌, ◌++◌, length, take, drop, refl, sym, ap, ◌∙◌, subst, append_assoc, length-append, length-drop, arith, zero-mul, suc-mul}
use Rattle.std.proofs.lemmas.List.{take-append-drop, drop-drop, drop_at}
use Rattle.std.proofs.lemmas.Nat.{from_le_bytes-to_le_bytes_2, from_le_bytes-to_le_bytes_4, from_le_bytes-to_le_bytes_8}
use Rattle.std.specs.List.{flat_map, AllByRecursion}
use Rattle.gfx_base.specs.Field.{IsBytes}
use Rattle.gfx_base.proofs.FieldLemmas.{IsBytes-take, IsBytes-drop, number_at-read_2, number_at-read_4, number_at-read_8}
use Rattle.gfx_layout.specs.Shape.{Size, u8, u16, u32, u64, bytes_in, digits, number_in, NumberFits, Row, row_bytes, row_digits, row_in, RowFits, Shape, width, text, part_in, PartFits}
use Rattle.gfx_layout.specs.Reading.{parts_in}

-- ---- a number

length-digits : (size : Size) (n : ℕ) → length (digits size n) ≡ bytes_in size
length-digits u8 n = refl
length-digits u16 n = refl
length-digits u32 n = refl
length-digits u64 n = refl

pub number_in-digits : (size : Size) (n : ℕ) (more : List ℕ) → NumberFits size n → number_in size (digits size n ++ more) ≡ n
number_in-digits u8 n more fits = refl
number_in-digits u16 n more fits = from_le_bytes-to_le_bytes_2 n fits
number_in-digits u32 n more fits = from_le_bytes-to_le_bytes_4 n fits
number_in-digits u64 n more fits = from_le_bytes-to_le_bytes_8 n fits

first_byte : (bytes : List ℕ) → 1 ≤ length bytes → digits u8 (number_in u8 bytes) ≡ take 1 bytes
first_byte [] some = absurd (omega arith)
first_byte (x ∷ xs) some = refl

digits-number_in : (size : Size) (bytes : List ℕ) → IsBytes bytes → bytes_in size ≤ length bytes → digits size (number_in size bytes) ≡ take (bytes_in size) bytes
digits-number_in u8 bytes all long = first_byte bytes long
digits-number_in u16 bytes all long = number_at-read_2 bytes 0 all (omega arith)
digits-number_in u32 bytes all long = number_at-read_4 bytes 0 all (omega arith)
digits-number_in u64 bytes all long = number_at-read_8 bytes 0 all (omega arith)

pub number_in-fits : (size : Size) (bytes : List ℕ) → IsBytes bytes → NumberFits size (number_in size bytes)
number_in-fits u8 bytes all = tt
number_in-fits u16 bytes all =
    let piece : IsBytes (take 2 bytes) = IsBytes-take 2 bytes all in
    omega (arith, piece 0, piece 1)
number_in-fits u32 bytes all =
    let piece : IsBytes (take 4 bytes) = IsBytes-take 4 bytes all in
    omega (arith, piece 0, piece 1, piece 2, piece 3)
number_in-fits u64 bytes all =
    let piece : IsBytes (take 8 bytes) = IsBytes-take 8 bytes all in
    omega (arith, piece 0, piece 1, piece 2, piece 3, piece 4, piece 5, piece 6, piece 7)

-- ---- a row of numbers

pub length-row_digits : (sizes : List Size) (row : Row sizes) → length (row_digits sizes row) ≡ row_bytes sizes
length-row_digits [] row = refl
length-row_digits (size ∷ sizes) row =
    length-append (digits size row.0) (row_digits sizes row.1)
    ∙ rw (length-digits size row.0, length-row_digits sizes row.1) refl

row_in-row_digits : (sizes : List Size) (row : Row sizes) (more : List ℕ) → RowFits sizes row → row_in sizes (row_digits sizes row ++ more) ≡ row
row_in-row_digits [] row more fits = refl
row_in-row_digits (size ∷ sizes) row more fits =
    let others = row_digits sizes row.1 ++ more in
    let behind : drop (bytes_in size) (digits size row.0 ++ others) ≡ others = drop_at (digits size row.0) others (bytes_in size) (length-digits size row.0) in
    ap (row_in (size ∷ sizes)) (append_assoc (digits size row.0) (row_digits sizes row.1) more)
    ∙ rw (number_in-digits size row.0 others fits.0, behind, row_in-row_digits sizes row.1 more fits.1) refl

pub row_digits-row_in : (sizes : List Size) (bytes : List ℕ) → IsBytes bytes → row_bytes sizes ≤ length bytes → bytes ≡ row_digits sizes (row_in sizes bytes) ++ drop (row_bytes sizes) bytes
row_digits-row_in [] bytes all long = refl
row_digits-row_in (size ∷ sizes) bytes all long =
    let behind = drop (bytes_in size) bytes in
    let first : bytes ≡ digits size (number_in size bytes) ++ behind =
    sym (take-append-drop (bytes_in size) bytes) ∙ ap (λ t. t ++ behind) (sym (digits-number_in size bytes all (omega arith))) in
    let others : behind ≡ row_digits sizes (row_in sizes behind) ++ drop (row_bytes sizes) behind =
    row_digits-row_in sizes behind (IsBytes-drop (bytes_in size) bytes all) (omega (arith, length-drop (bytes_in size) bytes)) in
    first
    ∙ ap (λ t. digits size (number_in size bytes) ++ t) (others ∙ ap (λ t. row_digits sizes (row_in sizes behind) ++ t) (drop-drop (row_bytes sizes) (bytes_in size) bytes))
    ∙ sym (append_assoc (digits size (number_in size bytes)) (row_digits sizes (row_in sizes behind)) (drop (bytes_in size + row_bytes sizes) bytes))

row_in-fits : (sizes : List Size) (bytes : List ℕ) → IsBytes bytes → RowFits sizes (row_in sizes bytes)
row_in-fits [] bytes all = tt
row_in-fits (size ∷ sizes) bytes all =
    (number_in-fits size bytes all, row_in-fits sizes (drop (bytes_in size) bytes) (IsBytes-drop (bytes_in size) bytes all))

-- ---- a part

module _ {T : Type 0} (shape : Shape T) where
  pub length-text : (part : T) → length (text shape part) ≡ width shape
  unfolding text
  length-text part = length-row_digits shape.sizes (shape.row part)

  -- what is spelled is read
  pub part_in-text : (part : T) (more : List ℕ) → PartFits shape part → part_in shape (text shape part ++ more) ≡ part
  unfolding text part_in
  part_in-text part more fits = ap shape.of_row (row_in-row_digits shape.sizes (shape.row part) more fits) ∙ shape.there part

  -- what is read is spelled so
  pub text-part_in : (bytes : List ℕ) → IsBytes bytes → width shape ≤ length bytes → bytes ≡ text shape (part_in shape bytes) ++ drop (width shape) bytes
  unfolding text part_in
  text-part_in bytes all long =
      row_digits-row_in shape.sizes bytes all long
      ∙ ap (λ t. row_digits shape.sizes t ++ drop (width shape) bytes) (sym (shape.back (row_in shape.sizes bytes)))

  pub part_in-fits : (bytes : List ℕ) → IsBytes bytes → PartFits shape (part_in shape bytes)
  unfolding part_in
  part_in-fits bytes all = subst (RowFits shape.sizes) (sym (shape.back (row_in shape.sizes bytes))) (row_in-fits shape.sizes bytes all)

  -- ---- parts, one after the other

  pub length-texts : (parts : List T) → length (flat_map (text shape) parts) ≡ length parts * width shape
  length-texts [] = sym (zero-mul (width shape))
  length-texts (part ∷ parts) =
      length-append (text shape part) (flat_map (text shape) parts)
      ∙ rw (length-text part, length-texts parts) (omega (arith, suc-mul (length parts) (width shape)))

  pub parts_in-texts : (parts : List T) (more : List ℕ) → AllByRecursion (PartFits shape) parts → parts_in shape (length parts) (flat_map (text shape) parts ++ more) ≡ parts
  unfolding parts_in
  parts_in-texts [] more fits = refl
  parts_in-texts (part ∷ parts) more fits =
      let others = flat_map (text shape) parts ++ more in
      let behind : drop (width shape) (text shape part ++ others) ≡ others = drop_at (text shape part) others (width shape) (length-text part) in
      ap (parts_in shape (suc (length parts))) (append_assoc (text shape part) (flat_map (text shape) parts) more)
      ∙ rw (part_in-text part others fits.0, behind, parts_in-texts parts more fits.1) refl

  pub length-parts_in : (count : ℕ) (bytes : List ℕ) → length (parts_in shape count bytes) ≡ count
  unfolding parts_in
  length-parts_in zero bytes = refl
  length-parts_in (suc count) bytes = ap suc (length-parts_in count (drop (width shape) bytes))

  pub texts-parts_in : (count : ℕ) (bytes : List ℕ) → IsBytes bytes → count * width shape ≤ length bytes → bytes ≡ flat_map (text shape) (parts_in shape count bytes) ++ drop (count * width shape) bytes
  unfolding parts_in
  texts-parts_in zero bytes all long = rw (zero-mul (width shape)) refl
  texts-parts_in (suc count) bytes all long =
      let wide = width shape in
      let behind = drop wide bytes in
      let more : suc count * wide ≡ count * wide + wide = suc-mul count wide in
      let first : bytes ≡ text shape (part_in shape bytes) ++ behind = text-part_in bytes all (omega arith) in
      let others : behind ≡ flat_map (text shape) (parts_in shape count behind) ++ drop (count * wide) behind =
      texts-parts_in count behind (IsBytes-drop wide bytes all) (omega (arith, length-drop wide bytes)) in
      let last : drop (count * wide) behind ≡ drop (suc count * wide) bytes = drop-drop (count * wide) wide bytes ∙ ap (λ n. drop n bytes) (omega arith) in
      first
      ∙ ap (λ t. text shape (part_in shape bytes) ++ t) (others ∙ ap (λ t. flat_map (text shape) (parts_in shape count behind) ++ t) last)
      ∙ sym (append_assoc (text shape (part_in shape bytes)) (flat_map (text shape) (parts_in shape count behind)) (drop (suc count * wide) bytes))

  pub parts_in-fit : (count : ℕ) (bytes : List ℕ) → IsBytes bytes → AllByRecursion (PartFits shape) (parts_in shape count bytes)
  unfolding parts_in
  parts_in-fit zero bytes all = tt
  parts_in-fit (suc count) bytes all =
      (part_in-fits bytes all, parts_in-fit count (drop (width shape) bytes) (IsBytes-drop (width shape) bytes all))
