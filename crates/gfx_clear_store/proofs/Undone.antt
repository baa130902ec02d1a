-- Rings that go back: what one more write, noted or not, does to the slots at the mark.
use Rattle.std.proofs.Common.{◌≡◌, ◌≢◌, ◌⊎◌, inl, inr, ℕ, zero, suc, ◌+◌, ◌<◌, ◌≤◌, Bool, true, false, cond, ◌||◌, nat_eq, List, [], ◌∷◌, ◌++◌, length, set, get_or, refl, sym, ap, ◌∙◌, subst, arith}
use Rattle.std.specs.List.{count_by}
use Rattle.std.proofs.lemmas.Bool.{cases_eq}
use Rattle.std.proofs.lemmas.Bool.Decides.{nat_tests}
use Rattle.std.proofs.lemmas.List.{set-set, set_comm, length-set, set-get_or, get_or-set_other, get_or-set_same}
use Rattle.std.proofs.lemmas.List.Sums.{count_by-le-length, sum_by-set}
use Rattle.gfx_clear_store.specs.Rings.{Slot}
use Rattle.gfx_clear_store.specs.Undoing.{Overwritten, logged, is_noted, kept, undone, AreWithin}

pub undone-append : (es : List Overwritten) (place : ℕ) (slot : Slot) (slots : List Slot) → undone (es ++ (place, slot) ∷ []) slots ≡ undone es (set slots place slot)
undone-append [] place slot slots = refl
undone-append (e ∷ es) place slot slots = ap (λ z. set z e.0 e.1) (undone-append es place slot slots)

pub length-undone : (es : List Overwritten) (slots : List Slot) → length (undone es slots) ≡ length slots
length-undone [] slots = refl
length-undone (e ∷ es) slots = length-set (undone es slots) e.0 e.1 ∙ length-undone es slots

pub AreWithin-front : (count : ℕ) (es : List Overwritten) (place : ℕ) (slot : Slot) → AreWithin count (es ++ (place, slot) ∷ []) → AreWithin count es
AreWithin-front count [] place slot all = tt
AreWithin-front count (e ∷ es) place slot all = (all.0, AreWithin-front count es place slot all.1)

pub AreWithin-last : (count : ℕ) (es : List Overwritten) (place : ℕ) (slot : Slot) → AreWithin count (es ++ (place, slot) ∷ []) → place < count
AreWithin-last count [] place slot all = all.0
AreWithin-last count (e ∷ es) place slot all = AreWithin-last count es place slot all.1

pub is_noted-append : (k : ℕ) (es : List Overwritten) (place : ℕ) (slot : Slot) → is_noted k (es ++ (place, slot) ∷ []) ≡ (nat_eq k place || is_noted k es)
is_noted-append k [] place slot = refl
is_noted-append k (e ∷ es) place slot = ap (λ z. nat_eq k e.0 || z) (is_noted-append k es place slot) ∙ swapped (nat_eq k e.0) (nat_eq k place) (is_noted k es)
  where
    swapped : (a b c : Bool) → (a || (b || c)) ≡ (b || (a || c))
    swapped true true c = refl
    swapped true false c = refl
    swapped false b c = refl

-- what a place has is overwritten anyway
undone_behind : (es : List Overwritten) (slots : List Slot) (k : ℕ) (x v : Slot) → set (undone es (set slots k x)) k v ≡ set (undone es slots) k v
undone_behind [] slots k x v = set-set slots k x v
undone_behind (e ∷ es) slots k x v = by (cases_eq e.0 k) (undone_behind es slots k x v)
  where
    by : ((e.0 ≡ k) ⊎ (e.0 ≢ k)) → set (undone es (set slots k x)) k v ≡ set (undone es slots) k v
        → set (set (undone es (set slots k x)) e.0 e.1) k v ≡ set (set (undone es slots) e.0 e.1) k v
    by (inl same) rest =
        ap (λ z. set (set (undone es (set slots k x)) z e.1) k v) same ∙ set-set (undone es (set slots k x)) k e.1 v
        ∙ rest
        ∙ sym (set-set (undone es slots) k e.1 v) ∙ ap (λ z. set (set (undone es slots) z e.1) k v) (sym same)
    by (inr apart) rest =
        set_comm (undone es (set slots k x)) e.0 k e.1 v apart
        ∙ ap (λ z. set z e.0 e.1) rest
        ∙ sym (set_comm (undone es slots) e.0 k e.1 v apart)

-- a place that was written since the mark may be written again
pub undone_again : (es : List Overwritten) (slots : List Slot) (k : ℕ) (x : Slot) → is_noted k es ≡ true → undone es (set slots k x) ≡ undone es slots
undone_again [] slots k x noted = let no : false ≡ true = noted in cc
undone_again (e ∷ es) slots k x noted = by (cases_eq k e.0) (undone_again es slots k x)
  where
    by : ((k ≡ e.0) ⊎ (k ≢ e.0)) → (is_noted k es ≡ true → undone es (set slots k x) ≡ undone es slots)
        → set (undone es (set slots k x)) e.0 e.1 ≡ set (undone es slots) e.0 e.1
    by (inl same) rest =
        ap (λ z. set (undone es (set slots k x)) z e.1) (sym same) ∙ undone_behind es slots k x e.1 ∙ ap (λ z. set (undone es slots) z e.1) same
    by (inr apart) rest =
        let differ : nat_eq k e.0 ≡ false = grind (arith, nat_tests) in
        let later : is_noted k es ≡ true = sym (ap (λ z. z || is_noted k es) differ) ∙ noted in
        ap (λ z. set z e.0 e.1) (rest later)

-- the slots at the mark stay through a write
pub undone_kept : (room : ℕ) (es : List Overwritten) (slots : List Slot) (k : ℕ) (x d : Slot) → undone (kept k (get_or slots k d) (logged room es)).entries (set slots k x) ≡ undone es slots
undone_kept room es slots k x d = by (is_noted k es) refl
  where
    by : (b : Bool) → is_noted k es ≡ b → undone (kept k (get_or slots k d) (logged room es)).entries (set slots k x) ≡ undone es slots
    by true noted = rw noted (undone_again es slots k x noted)
    by false fresh =
        rw fresh (undone-append es k (get_or slots k d) (set slots k x) ∙ ap (undone es) (set-set slots k x (get_or slots k d) ∙ set-get_or slots k d))

pub within_from_flags : (count : ℕ) (es : List Overwritten) → ((k : ℕ) → is_noted k es ≡ true → k < count) → AreWithin count es
within_from_flags count [] all = tt
within_from_flags count (e ∷ es) all = (
  all e.0 (let itself : nat_eq e.0 e.0 ≡ true = grind (arith, nat_tests) in ap (λ z. z || is_noted e.0 es) itself),
  within_from_flags count es (λ k noted. all k (ap (λ z. nat_eq k e.0 || z) noted ∙ or_true (nat_eq k e.0))),
)
  where
    or_true : (b : Bool) → (b || true) ≡ true
    or_true true = refl
    or_true false = refl

pub count_flag : (flags : List Bool) (k : ℕ) → k < length flags → get_or flags k false ≡ false → count_by (λ flag. flag) (set flags k true) ≡ count_by (λ flag. flag) flags + 1
count_flag flags k within fresh =
    let sums : count_by (λ flag. flag) (set flags k true) + cond {A = ℕ} (get_or flags k false) 1 0 ≡ count_by (λ flag. flag) flags + 1 = sum_by-set (λ flag. cond flag 1 0) flags k true false within in
    let none : cond {A = ℕ} (get_or flags k false) 1 0 ≡ 0 = ap (λ (flag : Bool). cond {A = ℕ} flag 1 0) fresh in
    omega arith

-- there is room for one more place that wasn't written since the mark
pub room_for_one : (flags : List Bool) (k n : ℕ) → k < length flags → get_or flags k false ≡ false → count_by (λ flag. flag) flags ≡ n → n < length flags
room_for_one flags k n within fresh counted =
    let most : count_by (λ flag. flag) (set flags k true) ≤ length (set flags k true) = count_by-le-length _ (set flags k true) in
    let one = count_flag flags k within fresh in
    omega (arith, length-set flags k true)

-- the flags still say which places were written
pub flags_more : (flags : List Bool) (es : List Overwritten) (place : ℕ) (slot : Slot) → place < length flags
    → ((k : ℕ) → get_or flags k false ≡ is_noted k es) → (k : ℕ) → get_or (set flags place true) k false ≡ is_noted k (es ++ (place, slot) ∷ [])
flags_more flags es place slot within same k = by (cases_eq k place)
  where
    by : ((k ≡ place) ⊎ (k ≢ place)) → get_or (set flags place true) k false ≡ is_noted k (es ++ (place, slot) ∷ [])
    by (inl here) =
        let itself : nat_eq k place ≡ true = grind (arith, nat_tests) in
        ap (λ z. get_or (set flags place true) z false) here ∙ get_or-set_same flags place true false within
        ∙ sym (is_noted-append k es place slot ∙ ap (λ z. z || is_noted k es) itself)
    by (inr apart) =
        let differ : nat_eq k place ≡ false = grind (arith, nat_tests) in
        get_or-set_other flags place k true false apart ∙ same k
        ∙ sym (is_noted-append k es place slot ∙ ap (λ z. z || is_noted k es) differ)

-- no flag is set behind the last
pub flag_within : (flags : List Bool) (k : ℕ) → get_or flags k false ≡ true → k < length flags
flag_within [] k flag = let no : false ≡ true = flag in cc
flag_within (f ∷ flags) zero flag = omega arith
flag_within (f ∷ flags) (suc k) flag = let rest = flag_within flags k flag in omega arith

-- one step of putting back
pub put_back_step : (es rest : List Overwritten) (place at : ℕ) (slot : Slot) (slots : List Slot) → es ≡ rest ++ (place, slot) ∷ [] → at ≡ place → AreWithin (length slots) es
    → (undone rest (set slots at slot) ≡ undone es slots) × AreWithin (length (set slots at slot)) rest
put_back_step es rest place at slot slots e same all = (
  ap (λ z. undone rest (set slots z slot)) same ∙ sym (undone-append rest place slot slots) ∙ ap (λ z. undone z slots) (sym e),
  subst (λ n. AreWithin n rest) (sym (length-set slots at slot)) (AreWithin-front (length slots) rest place slot (subst (AreWithin (length slots)) e all)),
)

-- each place of the log is one of the ring
pub log_within : (flags : List Bool) (es : List Overwritten) (count : ℕ) → ((k : ℕ) → get_or flags k false ≡ is_noted k es) → length flags ≡ count → AreWithin count es
log_within flags es count same long = within_from_flags count es (λ k noted. let below = flag_within flags k (same k ∙ noted) in omega arith)

-- what a flag was read as
pub read_flag : (flags : List Bool) (k : ℕ) (flag : Bool) → flag ≡ get_or flags k flag → flag ≡ false → get_or flags k false ≡ false
read_flag flags k flag read is = sym (subst (λ z. z ≡ get_or flags k z) is read)
