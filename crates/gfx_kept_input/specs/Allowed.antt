-- How many bytes are taken of an input, of which so many count: the files and their lengths don't. This project's own
-- rule.
use Rattle.std.proofs.Common.{◌≡◌, ℕ, ◌+◌, ◌≤◌, ◌<◌, List, [], ◌++◌, length, drop, Some, None, inl, inr, sym, ap, ◌∙◌, arith, length-append, length-drop}
use Rattle.std.specs.Int.{w32}
use Rattle.std.specs.Option.{unwrap_or}
use Rattle.std.proofs.lemmas.Bool.{cases_lt, le-leb, lt-leb, cond-true, cond-false}
use Rattle.std.proofs.lemmas.List.{drop-append-le}
use Rattle.std.proofs.Math.ListN.{drop_of_length-le}
use Rattle.gfx_base.specs.Field.{number_at, field}
use Rattle.gfx_base.proofs.FieldLemmas.{number_at-append}
use Rattle.gfx_kept_input.specs.Front.{size_of}

-- both files, as far as their lengths are known, and the bytes that count
abbrev pub allowed : ℕ → List ℕ → ℕ
allowed limit bytes = limit + (size_of bytes + size_of (drop (size_of bytes) bytes))

-- ---- the length of a file

pub field_none : (bytes : List ℕ) → length bytes < 4 → field w32 bytes 0 ≡ None
unfolding field
field_none bytes few = cond-false _ _ _ (lt-leb 4 (length bytes) few)

pub field_some : (bytes : List ℕ) → 4 ≤ length bytes → field w32 bytes 0 ≡ Some (number_at w32 bytes 0)
unfolding field
field_some bytes long = cond-true _ _ _ (le-leb 4 (length bytes) long)

pub size_unknown : (bytes : List ℕ) → length bytes < 4 → size_of bytes ≡ 4
size_unknown bytes few = ap (λ z. 4 + unwrap_or z 0) (field_none bytes few)

pub size_at : (bytes : List ℕ) → 4 ≤ length bytes → size_of bytes ≡ 4 + number_at w32 bytes 0
size_at bytes long = ap (λ z. 4 + unwrap_or z 0) (field_some bytes long)

pub size_least : (bytes : List ℕ) → 4 ≤ size_of bytes
size_least bytes = omega arith

-- once it is known, it stays
pub size_stays : (bytes more : List ℕ) → 4 ≤ length bytes → size_of (bytes ++ more) ≡ size_of bytes
size_stays bytes more long =
    size_at (bytes ++ more) (omega (arith, length-append bytes more))
    ∙ ap (λ n. 4 + n) (number_at-append w32 bytes more 0 long)
    ∙ sym (size_at bytes long)

size_grows : (bytes more : List ℕ) → size_of bytes ≤ size_of (bytes ++ more)
size_grows bytes more =
    elim (cases_lt (length bytes) 4) [
      | inl few ↦ let unknown = size_unknown bytes few in let least = size_least (bytes ++ more) in omega arith
      | inr long ↦ let same = size_stays bytes more long in omega arith
    ]

-- ---- what a taker owes

-- what lies behind a place has more bytes at its end
more_behind : (n : ℕ) (bytes more : List ℕ) → (rest : List ℕ) × (drop n (bytes ++ more) ≡ drop n bytes ++ rest)
more_behind n bytes more =
    elim (cases_lt (length bytes) n) [
      | inl past ↦
          let none : drop n bytes ≡ [] = drop_of_length-le bytes (omega arith) in
          (drop n (bytes ++ more), ap (λ z. z ++ drop n (bytes ++ more)) (sym none))
      | inr within ↦ (more, drop-append-le n bytes more within)
    ]

-- further bytes take nothing from how many may be taken
pub grows : (limit : ℕ) (bytes more : List ℕ) → allowed limit bytes ≤ allowed limit (bytes ++ more)
grows limit bytes more =
    elim (cases_lt (length bytes) 4) [
      | inl few ↦
          let first = size_unknown bytes few in
          let none : length (drop (size_of bytes) bytes) < 4 = omega (arith, length-drop (size_of bytes) bytes) in
          let second = size_unknown (drop (size_of bytes) bytes) none in
          let one = size_least (bytes ++ more) in
          let other = size_least (drop (size_of (bytes ++ more)) (bytes ++ more)) in omega arith
      | inr long ↦
          let first = size_stays bytes more long in
          let behind = more_behind (size_of bytes) bytes more in
          let same : size_of (drop (size_of (bytes ++ more)) (bytes ++ more)) ≡ size_of (drop (size_of bytes) bytes ++ behind.0) =
          ap (λ n. size_of (drop n (bytes ++ more))) first ∙ ap size_of behind.1 in
          let second = size_grows (drop (size_of bytes) bytes) behind.0 in omega arith
    ]

-- where all are taken that may be, further bytes allow no more
pub settles : (limit : ℕ) (bytes more : List ℕ) → length bytes ≡ allowed limit bytes → allowed limit (bytes ++ more) ≡ length bytes
settles limit bytes more all =
    let one = size_least bytes in
    let other = size_least (drop (size_of bytes) bytes) in
    let first = size_stays bytes more (omega arith) in
    let behind : drop (size_of (bytes ++ more)) (bytes ++ more) ≡ drop (size_of bytes) bytes ++ more =
    ap (λ n. drop n (bytes ++ more)) first ∙ drop-append-le (size_of bytes) bytes more (omega arith) in
    let second = ap size_of behind ∙ size_stays (drop (size_of bytes) bytes) more (omega (arith, length-drop (size_of bytes) bytes)) in
    omega arith
