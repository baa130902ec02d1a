-- What `parse` reads of a numeral, and what the text of a number begins with.
use Rattle.std.proofs.Common.{◌≡◌, ◌<◌, ◌≤◌, ◌^◌, ℕ, Bool, true, false, length, arith, refl, List, ◌∷◌, Some, None, Result, Ok, Err}
use Rattle.std.specs.Prelude.{nat_le, nat_lt}
use Rattle.std.specs.Char.{is_ascii_digit}
use Rattle.std.specs.Int.{IsInRange, is_in_range}
use Rattle.std.specs.List.{list_all}
use Rattle.std.specs.Result.{OkIff, result_ok}
use Rattle.std.specs.Str.Parse.{ParsesUnsigned, digits_value}
use Rattle.std.proofs.lemmas.Bool.{and_from, and_parts, false_from_ne_true, le-leb, leb-true, lt-ltb, ltb-true}
use Rattle.std.proofs.lemmas.Str.Parse.{IsNumeralModel, numerals_by_value, parse_digits}
use Rattle.gfx_words.specs.Table.{is_numeral, number_of}

-- each byte of the text is a decimal digit
abbrev AreDigits : List ℕ → Type 0
AreDigits ds = list_all is_ascii_digit ds ≡ true

first_digit : (c : ℕ) (cs : List ℕ) → AreDigits (c ∷ cs) → IsInRange 48 57 c × AreDigits cs
first_digit c cs all =
    let parts = and_parts (is_ascii_digit c) (list_all is_ascii_digit cs) all in
    let range = and_parts (nat_le 48 c) (nat_le c 57) parts.0 in
    ((leb-true 48 c range.0, leb-true c 57 range.1), parts.1)

one_more : (c : ℕ) (cs : List ℕ) → IsInRange 48 57 c → AreDigits cs → AreDigits (c ∷ cs)
one_more c cs range all =
    and_from (is_ascii_digit c) (list_all is_ascii_digit cs)
    (and_from (nat_le 48 c) (nat_le c 57) (le-leb 48 c range.0) (le-leb c 57 range.1)) all

own : IsNumeralModel AreDigits (digits_value 10)
own = numerals_by_value AreDigits (record { empty = refl; parts = first_digit; more = one_more })

numeral_parts : (text : List ℕ) → is_numeral text ≡ true → (1 ≤ length text) × AreDigits text
numeral_parts text is =
    let parts = and_parts (is_in_range 1 10 (length text)) (list_all is_ascii_digit text) is in
    (leb-true 1 (length text) (and_parts (nat_le 1 (length text)) (nat_le (length text) 10) parts.0).0, parts.1)

by_fit : {E : Type 0} (text : List ℕ) (r : Result ℕ E) → is_numeral text ≡ true
    → OkIff r ((0 < length text) × (digits_value 10 text < 2 ^ 32)) (digits_value 10 text) → result_ok r ≡ number_of text
unfolding number_of
by_fit text (Ok x) is fits = rw (is, lt-ltb (digits_value 10 text) (2 ^ 32) fits.0.1, fits.1) refl
by_fit text (Err e) is fits =
    let some = (numeral_parts text is).0 in
    rw (is, false_from_ne_true (nat_lt (digits_value 10 text) (2 ^ 32)) (λ small. fits (omega arith, ltb-true _ _ small))) refl

-- of a numeral `parse` reads the number
pub parsed : {E : Type 0} (text : List ℕ) (r : Result ℕ E) → is_numeral text ≡ true → ParsesUnsigned 32 10 text r
    → result_ok r ≡ number_of text
parsed text r is parses = by_fit text r is (parse_digits own 32 text r parses (numeral_parts text is).1)

-- any other text is no number
pub no_number : (text : List ℕ) → is_numeral text ≡ false → None ≡ number_of text
unfolding number_of
no_number text is = rw is refl

-- a text that is a number begins with a digit
pub begins_with_digit : (c : ℕ) (cs : List ℕ) (n : ℕ) → number_of (c ∷ cs) ≡ Some n → IsInRange 48 57 c
unfolding number_of
begins_with_digit c cs n is = go (is_numeral (c ∷ cs)) refl
  where
    go : (b : Bool) → is_numeral (c ∷ cs) ≡ b → IsInRange 48 57 c
    go true numeral = (first_digit c cs (numeral_parts (c ∷ cs) numeral).1).0
    go false numeral = absurd (let none = no_number (c ∷ cs) numeral in cc)
