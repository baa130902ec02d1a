-- What stands at the front stays there under more bytes, and how many bytes it takes.
use Rattle.std.proofs.Common.{◌≡◌, ℕ, ◌≤◌, ◌<◌, List, ◌++◌, length, take, drop, Some, Result, Ok, Err, inl, inr, refl, sym, ap, ◌∙◌, arith, length-append, length-drop}
use Rattle.std.specs.Int.{w32}
use Rattle.std.proofs.lemmas.Bool.{cases_lt, lt-ltb, le-ltb, le-leb, lt-leb, cond-true, cond-false}
use Rattle.std.proofs.lemmas.List.{take-append-le, drop-append-le, drop-drop}
use Rattle.gfx_base.specs.Field.{number_at}
use Rattle.gfx_base.specs.declared.refusal.Refusal.{Refusal}
use Rattle.gfx_base.specs.declared.refusal.Refusal.TheVariants.{KeptShape}
use Rattle.gfx_base.proofs.FieldLemmas.{number_at-append}
use Rattle.gfx_bitmap_cache.specs.Slots.{Entry}
use Rattle.gfx_import.specs.File.{entries_of}
use Rattle.gfx_import.specs.declared.limits.TheConstants.{MOST_FILE}
use Rattle.gfx_kept_input.specs.Allowed.{field_none, field_some, size_unknown, size_at}
use Rattle.gfx_kept_input.specs.Front.{Front, Whole, Short, Bad, read_as, front_of, front, size_of}

-- a front with more bytes behind it
abbrev pub with_more : Front → List ℕ → Front
with_more (Whole entries after) more = Whole entries (after ++ more)
with_more Short more = Short
with_more (Bad refusal) more = Bad refusal

-- ---- a file that is read

read-more : (read : Result (List Entry) Refusal) (after more : List ℕ) → read_as read (after ++ more) ≡ with_more (read_as read after) more
read-more (Ok entries) after more = refl
read-more (Err refusal) after more = refl

read-after : (read : Result (List Entry) Refusal) (rest after : List ℕ) (entries : List Entry) → read_as read rest ≡ Whole entries after → rest ≡ after
read-after (Ok all) rest after entries e = cc
read-after (Err refusal) rest after entries e = absurd cc

read-never : (read : Result (List Entry) Refusal) (rest : List ℕ) → read_as read rest ≡ Short → ⊥
read-never (Ok all) rest e = cc
read-never (Err refusal) rest e = cc

-- ---- by the length of the file

data Case (most size len : ℕ) : Type 0 where
  above : most < size → Case most size len
  few : size ≤ most → len < size → Case most size len
  enough : size ≤ most → size ≤ len → Case most size len

case_of : (most size len : ℕ) → Case most size len
case_of most size len =
    elim (cases_lt most size) [
      | inl past ↦ above past
      | inr fits ↦ elim (cases_lt len size) [
        | inl under ↦ few fits under
        | inr within ↦ enough fits within
      ]
    ]

above_at : (most size : ℕ) (bytes : List ℕ) → most < size → front_of most (Some size) bytes ≡ Bad KeptShape
unfolding front_of
above_at most size bytes past = cond-true _ _ _ (lt-ltb most size past)

few_at : (most size : ℕ) (bytes : List ℕ) → size ≤ most → length bytes < size → front_of most (Some size) bytes ≡ Short
unfolding front_of
few_at most size bytes fits under = cond-false _ _ _ (le-ltb most size fits) ∙ cond-false _ _ _ (lt-leb size (length bytes) under)

enough_at : (most size : ℕ) (bytes : List ℕ) → size ≤ most → size ≤ length bytes → front_of most (Some size) bytes ≡ read_as (entries_of (take size bytes)) (drop size bytes)
unfolding front_of
enough_at most size bytes fits within = cond-false _ _ _ (le-ltb most size fits) ∙ cond-true _ _ _ (le-leb size (length bytes) within)

of-stays : (most size : ℕ) (bytes more : List ℕ) → (front_of most (Some size) bytes ≡ Short → ⊥) → front_of most (Some size) (bytes ++ more) ≡ with_more (front_of most (Some size) bytes) more
of-stays most size bytes more never =
    elim (case_of most size (length bytes)) [
      | above past ↦ above_at most size (bytes ++ more) past ∙ ap (λ z. with_more z more) (sym (above_at most size bytes past))
      | few fits under ↦ absurd (never (few_at most size bytes fits under))
      | enough fits within ↦
          enough_at most size (bytes ++ more) fits (omega (arith, length-append bytes more))
          ∙ ap (λ z. read_as (entries_of z) (drop size (bytes ++ more))) (take-append-le size bytes more within)
          ∙ ap (read_as (entries_of (take size bytes))) (drop-append-le size bytes more within)
          ∙ read-more (entries_of (take size bytes)) (drop size bytes) more
          ∙ ap (λ z. with_more z more) (sym (enough_at most size bytes fits within))
    ]

-- where it isn't short, what stands behind a file of this length
of-after : (most size : ℕ) (bytes after : List ℕ) (entries : List Entry) → front_of most (Some size) bytes ≡ Whole entries after → (size ≤ length bytes) × (drop size bytes ≡ after)
of-after most size bytes after entries e =
    elim (case_of most size (length bytes)) [
      | above past ↦ let is = above_at most size bytes past in absurd cc
      | few fits under ↦ let is = few_at most size bytes fits under in absurd cc
      | enough fits within ↦ (within, read-after (entries_of (take size bytes)) (drop size bytes) after entries (sym (enough_at most size bytes fits within) ∙ e))
    ]

of-short : (most size : ℕ) (bytes : List ℕ) → front_of most (Some size) bytes ≡ Short → length bytes < size
of-short most size bytes e =
    elim (case_of most size (length bytes)) [
      | above past ↦ let is = above_at most size bytes past in absurd cc
      | few fits under ↦ under
      | enough fits within ↦ absurd (read-never (entries_of (take size bytes)) (drop size bytes) (sym (enough_at most size bytes fits within) ∙ e))
    ]

-- ---- at the front

pub short_at : (bytes : List ℕ) → length bytes < 4 → front bytes ≡ Short
unfolding front front_of
short_at bytes under = rw (field_none bytes under) refl

front_at : (bytes : List ℕ) → 4 ≤ length bytes → front bytes ≡ front_of MOST_FILE (Some (number_at w32 bytes 0)) (drop 4 bytes)
unfolding front
front_at bytes long = ap (λ z. front_of MOST_FILE z (drop 4 bytes)) (field_some bytes long)

more_at : (bytes more : List ℕ) → 4 ≤ length bytes → front (bytes ++ more) ≡ front_of MOST_FILE (Some (number_at w32 bytes 0)) (drop 4 bytes ++ more)
more_at bytes more long =
    front_at (bytes ++ more) (omega (arith, length-append bytes more))
    ∙ ap (λ n. front_of MOST_FILE (Some n) (drop 4 (bytes ++ more))) (number_at-append w32 bytes more 0 long)
    ∙ ap (front_of MOST_FILE (Some (number_at w32 bytes 0))) (drop-append-le 4 bytes more long)

-- what isn't short stays as it is
pub front-stays : (bytes more : List ℕ) → (front bytes ≡ Short → ⊥) → front (bytes ++ more) ≡ with_more (front bytes) more
front-stays bytes more never =
    elim (cases_lt (length bytes) 4) [
      | inl under ↦ absurd (never (short_at bytes under))
      | inr long ↦
          let is = front_at bytes long in
          more_at bytes more long
          ∙ of-stays MOST_FILE (number_at w32 bytes 0) (drop 4 bytes) more (λ short. never (is ∙ short))
          ∙ ap (λ z. with_more z more) (sym is)
    ]

pub whole-stays : (bytes more after : List ℕ) (entries : List Entry) → front bytes ≡ Whole entries after → front (bytes ++ more) ≡ Whole entries (after ++ more)
whole-stays bytes more after entries is = front-stays bytes more (λ short. cc) ∙ ap (λ z. with_more z more) is

pub bad-stays : (bytes more : List ℕ) (refusal : Refusal) → front bytes ≡ Bad refusal → front (bytes ++ more) ≡ Bad refusal
bad-stays bytes more refusal is = front-stays bytes more (λ short. cc) ∙ ap (λ z. with_more z more) is

-- ---- how many bytes it takes

pub whole-size : (bytes after : List ℕ) (entries : List Entry) → front bytes ≡ Whole entries after → (size_of bytes ≤ length bytes) × (drop (size_of bytes) bytes ≡ after)
whole-size bytes after entries e =
    elim (cases_lt (length bytes) 4) [
      | inl under ↦ let is = short_at bytes under in absurd cc
      | inr long ↦
          let n = number_at w32 bytes 0 in
          let size = size_at bytes long in
          let behind = of-after MOST_FILE n (drop 4 bytes) after entries (sym (front_at bytes long) ∙ e) in
          let within : n ≤ length (drop 4 bytes) = behind.0 in
          (omega (arith, length-drop 4 bytes), ap (λ k. drop k bytes) size ∙ sym (drop-drop n 4 bytes) ∙ behind.1)
    ]

pub short-size : (bytes : List ℕ) → front bytes ≡ Short → length bytes < size_of bytes
short-size bytes e =
    elim (cases_lt (length bytes) 4) [
      | inl under ↦ let size = size_unknown bytes under in omega arith
      | inr long ↦
          let n = number_at w32 bytes 0 in
          let size = size_at bytes long in
          let under : length (drop 4 bytes) < n = of-short MOST_FILE n (drop 4 bytes) (sym (front_at bytes long) ∙ e) in
          omega (arith, length-drop 4 bytes)
    ]
