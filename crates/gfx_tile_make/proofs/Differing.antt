-- Numbers less the ones before them.
use Rattle.std.proofs.Common.{◌≡◌, inl, inr, ℕ, zero, suc, ◌+◌, ◌-◌, ◌<◌, ◌≤◌, true, ℤ, pos, ◌-ℤ◌, List, [], ◌∷◌, ◌++◌, length, take, drop, set, get_or, refl, sym, ap, subst, ◌∙◌, arith, append_assoc, length-append, length-drop}
use Rattle.std.specs.Int.RustNames.{unsigned_abs}
use Rattle.std.proofs.lemmas.Bool.{cases_lt, le-leb}
use Rattle.std.proofs.lemmas.Int.{ints}
use Rattle.std.proofs.Math.Seq.{set-append_seam}
use Rattle.std.proofs.lemmas.List.{drop_more, take_more, append-nil, length-take-le, get_or-append-add, get_or-drop, get_or-take, get_or_append_left, get_or_default}
use Rattle.gfx_dwt.specs.declared.layout.Transform.{Transform}
use Rattle.gfx_dwt.specs.declared.layout.Transform.TheVariants.{Plain, Reduced}
use Rattle.gfx_dwt.specs.declared.layout.Band.TheVariants.{Ll3}
use Rattle.gfx_dwt.specs.Place.{start}
use Rattle.gfx_dwt.specs.Ranges.{Within, at}
use Rattle.gfx_rlgr.specs.Bound.{AreSmall}
use Rattle.gfx_rlgr.specs.Rlgr.{in_range}
use Rattle.gfx_tile_make.proofs.Bounds.{abs_of_within}
use Rattle.gfx_tile_make.specs.Planes.{differences}

-- the last number, or the one before all
unfoldable pub last-of : ℤ → List ℤ → ℤ
last-of last [] = last
last-of last (x ∷ xs) = last-of x xs

last-is : (last : ℤ) (xs : List ℤ) (x : ℤ) → last-of last (xs ++ x ∷ []) ≡ x
unfolding last-of
last-is last [] x = refl
last-is last (y ∷ xs) x = last-is y xs x

differences-last : (last : ℤ) (xs : List ℤ) (x : ℤ) → differences last (xs ++ x ∷ []) ≡ differences last xs ++ (x -ℤ last-of last xs) ∷ []
unfolding last-of differences
differences-last last [] x = refl
differences-last last (y ∷ xs) x = ap (λ l. (y -ℤ last) ∷ l) (differences-last y xs x)

pub length-differences : (last : ℤ) (xs : List ℤ) → length (differences last xs) ≡ length xs
unfolding differences
length-differences last [] = refl
length-differences last (x ∷ xs) = ap suc (length-differences x xs)

-- the next value is still as it was
pub due-here : (all values : List ℤ) (i : ℕ) → i < length all → values ≡ differences (pos 0) (take i all) ++ drop i all → at values i ≡ at all i
due-here all values i h e =
    let long : length (differences (pos 0) (take i all)) ≡ i = length-differences (pos 0) (take i all) ∙ length-take-le i all (omega arith) in
    ap (λ l. at l i) e
    ∙ ap (λ n. at (differences (pos 0) (take i all) ++ drop i all) n) {y = length (differences (pos 0) (take i all)) + 0} (omega arith)
    ∙ get_or-append-add (differences (pos 0) (take i all)) (drop i all) 0 (pos 0)
    ∙ ap (λ l. at l 0) (drop_more all i (pos 0) h)

-- one more difference stands in its place
pub differs-more : (all values : List ℤ) (i : ℕ) (last y : ℤ) → i < length all → values ≡ differences (pos 0) (take i all) ++ drop i all → last ≡ last-of (pos 0) (take i all) → y ≡ at all i -ℤ last
    → (set values i y ≡ differences (pos 0) (take (i + 1) all) ++ drop (i + 1) all) × (at all i ≡ last-of (pos 0) (take (i + 1) all))
differs-more all values i last y h e f g =
    let here : y ≡ at all i -ℤ last-of (pos 0) (take i all) = g ∙ ap (λ (z : ℤ). at all i -ℤ z) f in (
      ap (λ l. set l i y) e
          ∙ ap (λ l. set (differences (pos 0) (take i all) ++ l) i y) (drop_more all i (pos 0) h)
          ∙ ap (λ n. set (differences (pos 0) (take i all) ++ (at all i ∷ drop (i + 1) all)) n y) (sym (length-differences (pos 0) (take i all) ∙ length-take-le i all (omega arith)))
          ∙ set-append_seam (differences (pos 0) (take i all)) (at all i) (drop (i + 1) all) y
          ∙ sym (ap (λ l. differences (pos 0) l ++ drop (i + 1) all) (take_more all i (pos 0) h) ∙ ap (λ l. l ++ drop (i + 1) all) (differences-last (pos 0) (take i all) (at all i)) ∙ append_assoc (differences (pos 0) (take i all)) (_ ∷ []) (drop (i + 1) all) ∙ ap (λ z. differences (pos 0) (take i all) ++ (z ∷ drop (i + 1) all)) (sym here)),
      sym (ap (last-of (pos 0)) (take_more all i (pos 0) h) ∙ last-is (pos 0) (take i all) (at all i)),
    )

-- no number is left
pub all-different : (all values : List ℤ) (i : ℕ) → length all ≤ i → values ≡ differences (pos 0) (take i all) ++ drop i all → values ≡ differences (pos 0) all
all-different all values i h e = e ∙ ap (λ l. differences (pos 0) l ++ drop i all) (take_whole i all h) ∙ ap (λ l. differences (pos 0) all ++ l) (drop_whole i all h) ∙ append-nil (differences (pos 0) all)
  where
    take_whole : (i : ℕ) (xs : List ℤ) → length xs ≤ i → take i xs ≡ xs
    take_whole i [] h = none i
      where
        none : (i : ℕ) → take {A = ℤ} i [] ≡ []
        none zero = refl
        none (suc i) = refl
    take_whole zero (x ∷ xs) h = absurd (omega arith)
    take_whole (suc i) (x ∷ xs) h = ap (λ l. x ∷ l) (take_whole i xs (omega arith))

    drop_whole : (i : ℕ) (xs : List ℤ) → length xs ≤ i → drop i xs ≡ []
    drop_whole zero [] h = refl
    drop_whole (suc i) [] h = refl
    drop_whole zero (x ∷ xs) h = absurd (omega arith)
    drop_whole (suc i) (x ∷ xs) h = drop_whole i xs (omega arith)

-- ---- how large first values are

difference-within : (x last : ℤ) → Within 1024 x → Within 1024 last → Within 2048 (x -ℤ last)
difference-within x last p q = record { low = omega (arith, ints, p.low, q.high); high = omega (arith, ints, p.high, q.low) }

differences-within : (last : ℤ) (xs : List ℤ) → Within 1024 last → ((k : ℕ) → k < length xs → Within 1024 (at xs k)) → (k : ℕ) → k < length xs → Within 2048 (at (differences last xs) k)
unfolding differences
differences-within last [] p all k h = absurd (omega arith)
differences-within last (x ∷ xs) p all zero h = difference-within x last (all zero (omega arith)) p
differences-within last (x ∷ xs) p all (suc k) h = differences-within x xs (all zero (omega arith)) (λ j less. all (suc j) (omega arith)) k (omega arith)

wider : (z : ℤ) → Within 1024 z → Within 2048 z
wider z p = record { low = omega (arith, ints, p.low); high = omega (arith, ints, p.high) }

-- values as they are, and behind them differences
pub record AreFirst (values : List ℤ) : Type 0 where
  pub all : length values ≡ 4096
  pub front : (k : ℕ) → k < 4015 → Within 1024 (at values k)
  pub each : (k : ℕ) → k < 4096 → Within 2048 (at values k)

pub are-first : (front back values : List ℤ) → values ≡ front ++ back → length values ≡ 4096 → 4015 ≤ length front → ((k : ℕ) → k < length values → Within 1024 (at values k)) → AreFirst (front ++ differences (pos 0) back)
are-first front back values e long some small = record {
  all = length-append front (differences (pos 0) back) ∙ ap (λ n. length front + n) (length-differences (pos 0) back) ∙ sym (length-append front back) ∙ ap length (sym e) ∙ long;
  front = λ k h. ahead k (omega arith);
  each = λ k h. elim (cases_lt k (length front)) [
    | inl less ↦ wider _ (ahead k less)
    | inr on ↦
        subst (λ j. Within 2048 (at (front ++ differences (pos 0) back) j)) {x = length front + (k - length front)} {y = k} (omega arith)
        (subst (Within 2048) (sym (get_or-append-add front (differences (pos 0) back) (k - length front) (pos 0)))
        (differences-within (pos 0) back (record { low = omega (arith, ints); high = omega (arith, ints) }) behind (k - length front) (omega (arith, ends))))
  ];
}
  where
    ends : length front + length back ≡ 4096
    ends = sym (length-append front back) ∙ ap length (sym e) ∙ long

    ahead : (k : ℕ) → k < length front → Within 1024 (at (front ++ differences (pos 0) back) k)
    ahead k h = subst (Within 1024) (ap (λ l. at l k) e ∙ get_or_append_left front back (pos 0) k h ∙ sym (get_or_append_left front (differences (pos 0) back) (pos 0) k h)) (small k (omega (arith, ends)))

    behind : (k : ℕ) → k < length back → Within 1024 (at back k)
    behind k h = subst (Within 1024) (ap (λ l. at l (length front + k)) e ∙ get_or-append-add front back k (pos 0)) (small (length front + k) (omega (arith, ends)))

pub all-in-range : (values : List ℤ) → AreFirst values → (k : ℕ) (d : ℤ) → k < length values → in_range (get_or values k d) ≡ true
all-in-range values are k d h =
    let small : unsigned_abs (at values k) ≤ 32767 = omega (arith, abs_of_within 2048 (at values k) (are.each k (omega (arith, are.all)))) in
    ap in_range (get_or_default values k d (pos 0) h) ∙ le-leb (unsigned_abs (at values k)) 32767 small

pub all-small : (values : List ℤ) → AreFirst values → AreSmall values
unfolding AreSmall
all-small values are = (
  λ k d h.
      let near : k < 4015 = omega (arith, length-take-le 4015 values (omega (arith, are.all))) in
      subst (λ z. unsigned_abs z ≤ 1024) (sym (get_or-take 4015 values k d near ∙ get_or_default values k d (pos 0) (omega (arith, are.all)))) (abs_of_within 1024 (at values k) (are.front k near)),
  λ k d h.
      let far : 4015 + k < 4096 = omega (arith, length-drop 4015 values, are.all) in
      subst (λ z. unsigned_abs z ≤ 2048) (sym (get_or-drop 4015 values k d ∙ get_or_default values (4015 + k) d (pos 0) (omega (arith, are.all)))) (abs_of_within 2048 (at values (4015 + k)) (are.each (4015 + k) far)),
)

-- LL3 begins behind the first 4,015 places
pub low-starts : (t : Transform) → 4015 ≤ start t Ll3
low-starts Plain = omega arith
low-starts Reduced = omega arith
