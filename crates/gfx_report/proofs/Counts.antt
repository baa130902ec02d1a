-- How many slots are filled, and how many places of a ring and indices of glyphs hold something.
use Rattle.std.proofs.Common.{◌≡◌, ◌∙◌, ℕ, ◌+◌, ◌-◌, ◌<◌, ◌≤◌, suc, Bool, true, false, cond, List, [], ◌∷◌, length, drop, Some, None, Option, is_some, refl, ap, sym, subst, zero-add, arith}
use Rattle.std.specs.Prelude.{slice_index_or, count_by}
use Rattle.std.specs.Int.{from_bool}
use Rattle.std.specs.List.{range_with_len}
use Rattle.std.specs.Option.{option_map}
use Rattle.std.specs.Ordering.{nat_cmp}
use Rattle.std.specs.FinMap.{FinMap, entries, len, len-entries}
use Rattle.std.proofs.lemmas.List.{drop_more, get_or-drop}
use Rattle.std.proofs.lemmas.List.FromFn.{length-range_with_len}
use Rattle.std.proofs.lemmas.List.Sums.{sum_by-cons, count_by-le-length}
use Rattle.gfx_base.proofs.MapLemmas.{from_key, first_key, from_key-zero, next_some}
use Rattle.gfx_base.specs.declared.pixel.Rgb.{Rgb}
use Rattle.gfx_clear_store.specs.Rings.{Slot}

-- one where it is true, and none where it isn't
as_byte : (b : Bool) → ◌≡◌ {A = ℕ} (cond b 1 0) (from_bool b)
as_byte true = refl
as_byte false = refl

module _ {X : Type 0} (p : X → Bool) (all : List X) where
  -- so many were counted, and with these they are all
  abbrev pub Counted : ℕ → List X → Type 0
  Counted count rest = count + count_by p rest ≡ count_by p all

  -- at first none were
  pub Counted_none : (rest : List X) → rest ≡ all → Counted 0 rest
  Counted_none rest same = zero-add (count_by p rest) ∙ ap (count_by p) same

  -- the next one is
  pub Counted_next : (count : ℕ) (x : X) (rest left : List X) (test : Bool) (one : ℕ)
      → left ≡ x ∷ rest → test ≡ p x → one ≡ from_bool test → Counted count left → Counted (count + one) rest
  Counted_next count x rest left test one cut same byte counted =
      let front : count_by p (x ∷ rest) ≡ cond (p x) 1 0 + count_by p rest = sum_by-cons (λ y. cond (p y) 1 0) x rest in
      let due : count + count_by p (x ∷ rest) ≡ count_by p all = subst (Counted count) cut counted in
      let one_is : one ≡ cond (p x) 1 0 = byte ∙ ap from_bool same ∙ sym (as_byte (p x)) in
      omega (arith, front, due, one_is)

  -- no more are counted than there are
  pub Counted_within : (count : ℕ) (rest : List X) → Counted count rest → count ≤ length all
  Counted_within count rest counted = let most = count_by-le-length p all in omega (arith, counted, most)

-- what holds something does so however it is seen
seen : {A B : Type 0} (f : A → B) (o : Option A) → is_some (option_map f o) ≡ is_some o
seen f None = refl
seen f (Some a) = refl

pub seen_some : {A : Type 0} (o looked : Option A) (b : A) → looked ≡ o → looked ≡ Some b → true ≡ is_some o
seen_some o looked b here is = ap is_some (sym is ∙ here)

-- the next place of a ring is counted
pub place_counted : {A : Type 0} (f : A → List Rgb) (slots : List Slot) (held place from limit : ℕ) (looked : Option A) (test : Bool) (one : ℕ)
    → length slots ≡ limit → from ≤ limit → place < from → option_map f looked ≡ slice_index_or slots place None → test ≡ is_some looked → one ≡ from_bool test
    → Counted is_some slots held (drop place slots) → Counted is_some slots (held + one) (drop (place + 1) slots)
place_counted f slots held place from limit looked test one whole within below here same byte counted =
    Counted_next is_some slots held (slice_index_or slots place None) (drop (place + 1) slots) (drop place slots) test one
    (drop_more slots place None (omega arith)) (same ∙ sym (seen f looked) ∙ ap is_some here) byte counted

-- slots that hold nothing
none_held : (slots : List Slot) → ((k : ℕ) → slice_index_or slots k None ≡ None) → count_by is_some slots ≡ 0
none_held [] blank = refl
none_held (slot ∷ slots) blank =
    let front : count_by is_some (slot ∷ slots) ≡ cond (is_some slot) 1 0 + count_by is_some slots = sum_by-cons (λ s. cond (is_some s) 1 0) slot slots in
    let none : ◌≡◌ {A = ℕ} (cond (is_some slot) 1 0) 0 = ap (λ s. cond (is_some s) 1 0) (blank 0) in
    let rest = none_held slots (λ k. blank (suc k)) in
    omega (arith, front, none, rest)

-- from the place on where nothing was ever written none are left
pub places_counted : (slots : List Slot) (held place from : ℕ) → ((k : ℕ) → from ≤ k → slice_index_or slots k None ≡ None) → from ≤ place
    → Counted is_some slots held (drop place slots) → held ≡ count_by is_some slots
places_counted slots held place from blank past counted =
    let none = none_held (drop place slots) (λ k. get_or-drop place slots k None ∙ blank (place + k) (omega arith)) in
    omega (arith, counted, none)

module _ (p : ℕ → Bool) where
  -- the indices from one on, below a number
  abbrev pub indices_from : ℕ → ℕ → List ℕ
  indices_from count index = range_with_len index (count - index)

  -- so many of the indices before one passed
  abbrev pub IndicesCounted : ℕ → ℕ → ℕ → Type 0
  IndicesCounted count held index = Counted p (range_with_len 0 count) held (indices_from count index)

  -- at first none did
  pub no_index_counted : (count : ℕ) → IndicesCounted count 0 0
  no_index_counted count =
      let all : count - 0 ≡ count = omega arith in
      Counted_none p (range_with_len 0 count) (indices_from count 0) (ap (range_with_len 0) all)

  -- the next index is counted
  pub index_counted : (count held index : ℕ) (test : Bool) (one : ℕ) → index < count → test ≡ p index → one ≡ from_bool test
      → IndicesCounted count held index → IndicesCounted count (held + one) (index + 1)
  index_counted count held index test one below same byte counted =
      let here : count - index ≡ suc (count - (index + 1)) = omega arith in
      Counted_next p (range_with_len 0 count) held index (indices_from count (index + 1)) (indices_from count index) test one
      (ap (range_with_len index) here) same byte counted

  -- no more are counted than there are
  pub indices_within : (count held index : ℕ) → IndicesCounted count held index → held ≤ count
  indices_within count held index counted =
      let most : held ≤ length (range_with_len 0 count) = Counted_within p (range_with_len 0 count) held (indices_from count index) counted in
      let long = length-range_with_len 0 count in
      omega (arith, most, long)

  -- behind the last index all are counted
  pub indices_counted : (count held index : ℕ) → count ≤ index → IndicesCounted count held index → held ≡ count_by p (range_with_len 0 count)
  indices_counted count held index past counted =
      let none : count - index ≡ 0 = omega arith in
      let due : held + count_by p [] ≡ count_by p (range_with_len 0 count) = subst (λ n. held + count_by p (range_with_len index n) ≡ count_by p (range_with_len 0 count)) none counted in
      omega (arith, due)

module _ {X : Type 0} (m : FinMap nat_cmp X) where
  -- so many keys were counted before one
  abbrev pub KeysCounted : ℕ → ℕ → Type 0
  KeysCounted count from = count + length (from_key from (entries m)) ≡ length (entries m)

  -- at first none were
  pub no_key_counted : KeysCounted 0 0
  no_key_counted = zero-add _ ∙ ap length (from_key-zero (entries m))

  -- the next key is
  pub key_counted : (count from key : ℕ) → first_key (from_key from (entries m)) ≡ Some key → KeysCounted count from → KeysCounted (count + 1) (key + 1)
  key_counted count from key first counted =
      let next = next_some m from key first in
      let cut : length (from_key from (entries m)) ≡ suc (length (from_key (key + 1) (entries m))) = ap length next.cut in
      omega (arith, counted, cut)

  -- with no key left all are counted
  pub keys_counted : (count from : ℕ) → from_key from (entries m) ≡ [] → KeysCounted count from → count ≡ len m
  keys_counted count from none counted =
      let left : length (from_key from (entries m)) ≡ 0 = ap length none in
      let all : len m ≡ length (entries m) = len-entries m in
      omega (arith, counted, left, all)
