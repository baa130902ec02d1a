-- Bits have one reading at given widths.
use Rattle.std.proofs.Common.{◌≡◌, ◌≢◌, ◌∙◌, ◌⊎◌, inl, inr, ℕ, zero, suc, ◌+◌, ◌-◌, ◌^◌, ◌<◌, ◌≤◌, Bool, true, false, cond, ℤ, pos, negsuc, List, [], ◌∷◌, ◌++◌, length, map, take, drop, get_or, refl, sym, ap, subst, arith, replicate, append_assoc, length-append}
use Rattle.std.specs.Prelude.{nat_lt}
use Rattle.std.specs.Int.RustNames.{unsigned_abs}
use Rattle.std.proofs.lemmas.Bool.{cases_lt, lt-ltb}
use Rattle.std.proofs.lemmas.List.{length-replicate, length-map, length-take, take-append-le, get_or-append-add, get_or-take}
use Rattle.gfx_bits.specs.Bits.{Spelled, first, digits, zeros_code}
use Rattle.gfx_bits.proofs.Laws.{spelled-apart, number-spelled, spelled-drop}
use Rattle.gfx_srl.specs.Code.{Token, Run, LastRun, Pair, nothing, k, is_negative, code, after, IsToken, terms_of}
use Rattle.gfx_srl.specs.Srl.{Srl, codes, terms, AreTokens, plain, width_of}
use Rattle.gfx_srl.proofs.Reading.{pair_of}

true-false : true ≡ false → ⊥
true-false e = cc

-- ---- a magnitude

zeros-stand : (n : ℕ) (rest bits new : List Bool) (i : ℕ) → Spelled bits (replicate n false ++ rest) new → i < n → first (drop i bits) ≡ false
zeros-stand zero rest bits new i p h = absurd (omega arith)
zeros-stand (suc n) rest bits new zero p h = p.0
zeros-stand (suc n) rest [] new (suc i) p h = refl
zeros-stand (suc n) rest (b ∷ bits) new (suc i) p h = zeros-stand n rest bits new i p.1 (omega arith)

one-stands : (n : ℕ) (bits new : List Bool) → Spelled bits (replicate n false ++ true ∷ []) new → first (drop n bits) ≡ true
one-stands zero bits new p = p.0
one-stands (suc n) [] new p = absurd (true-false (sym (one-stands n [] new p.1) ∙ nil n))
  where
    nil : (n : ℕ) → first (drop n []) ≡ false
    nil zero = refl
    nil (suc n) = refl
one-stands (suc n) (b ∷ bits) new p = one-stands n bits new p.1

-- a code of fewer zeros ends where the other goes on
no-fewer : (most m n : ℕ) (bits x y : List Bool) → m < n → n ≤ most → Spelled bits (zeros_code most m) x → Spelled bits (zeros_code most n) y → ⊥
unfolding zeros_code
no-fewer most m n bits x y less within p q =
    true-false
    (sym (one-stands m bits x (subst (λ b. Spelled bits (replicate m false ++ cond b (true ∷ []) []) x) (lt-ltb m most (omega arith)) p))
    ∙ zeros-stand n (cond (nat_lt n most) (true ∷ []) []) bits y m q less)

one-magnitude : (most m n : ℕ) (bits x y : List Bool) → m ≤ most → n ≤ most → Spelled bits (zeros_code most m) x → Spelled bits (zeros_code most n) y → (m ≡ n) × (x ≡ y)
one-magnitude most m n bits x y f g p q = by (cases_lt m n) (cases_lt n m)
  where
    by : ((m < n) ⊎ (n ≤ m)) → ((n < m) ⊎ (m ≤ n)) → (m ≡ n) × (x ≡ y)
    by (inl less) other = absurd (no-fewer most m n bits x y less g p q)
    by (inr on) (inl less) = absurd (no-fewer most n m bits y x less f q p)
    by (inr on) (inr on') =
        let same : m ≡ n = omega arith in
        (same, spelled-drop bits (zeros_code most m) x p ∙ ap (λ i. drop (length (zeros_code most i)) bits) same ∙ sym (spelled-drop bits (zeros_code most n) y q))

signed-only : (a b : ℤ) → a ≢ pos 0 → b ≢ pos 0 → is_negative a ≡ is_negative b → unsigned_abs a - 1 ≡ unsigned_abs b - 1 → a ≡ b
signed-only (pos zero) b p q s e = absurd (p refl)
signed-only (pos (suc a)) (pos zero) p q s e = absurd (q refl)
signed-only (pos (suc a)) (pos (suc b)) p q s e = ap (λ n. pos n) {x = suc a} {y = suc b} (omega arith)
signed-only (pos (suc a)) (negsuc b) p q s e = absurd (true-false (sym s))
signed-only (negsuc a) (pos b) p q s e = absurd (true-false s)
signed-only (negsuc a) (negsuc b) p q s e = ap negsuc (omega arith)

-- ---- terms

-- the first terms have these widths, but for zeros
abbrev Fit : ℕ → (ℕ → ℕ) → List Pair → Type 0
Fit n widths terms = (i : ℕ) → i < n → (get_or terms i nothing).value ≢ pos 0 → (get_or terms i nothing).width ≡ widths i

-- the same front, and the same behind it
front-same : (n : ℕ) (front xs ys : List Pair) → take (n - length front) xs ≡ take (n - length front) ys → take n (front ++ xs) ≡ take n (front ++ ys)
front-same n [] xs ys e = ap (λ m. take m xs) {y = n - 0} (omega arith) ∙ e ∙ ap (λ m. take m ys) {x = n - 0} (omega arith)
front-same zero (f ∷ front) xs ys e = refl
front-same (suc n) (f ∷ front) xs ys e =
    ap (λ l. f ∷ l)
    (front-same n front xs ys (ap (λ m. take m xs) {y = suc n - suc (length front)} (omega arith) ∙ e ∙ ap (λ m. take m ys) {x = suc n - suc (length front)} (omega arith)))

-- zeros alone
zeros-alone : (n count : ℕ) (xs ys : List Pair) → n ≤ count → take n (replicate count nothing ++ xs) ≡ take n (replicate count nothing ++ ys)
zeros-alone n count xs ys h =
    take-append-le n (replicate count nothing) xs (omega (arith, length-replicate count nothing)) ∙ sym (take-append-le n (replicate count nothing) ys (omega (arith, length-replicate count nothing)))

fit-behind : (n : ℕ) (widths : ℕ → ℕ) (front xs : List Pair) → Fit n widths (front ++ xs) → Fit (n - length front) (λ i. widths (length front + i)) xs
fit-behind n widths front xs fit i h some =
    let here : get_or (front ++ xs) (length front + i) nothing ≡ get_or xs i nothing = get_or-append-add front xs i nothing in
    ap (λ (p : Pair). p.width) (sym here) ∙ fit (length front + i) (omega arith) (λ e. some (ap (λ (p : Pair). p.value) (sym here) ∙ e))

value_at : (n : ℕ) (pair : Pair) (rest : List Pair) → get_or ((replicate n nothing ++ pair ∷ []) ++ rest) n nothing ≡ pair
value_at zero pair rest = refl
value_at (suc n) pair rest = value_at n pair rest

width-at : (n count : ℕ) (widths : ℕ → ℕ) (pair : Pair) (rest : List Pair) → count < n → pair.value ≢ pos 0 → Fit n widths ((replicate count nothing ++ pair ∷ []) ++ rest) → pair.width ≡ widths count
width-at n count widths pair rest h some fit =
    ap (λ (p : Pair). p.width) (sym (value_at count pair rest)) ∙ fit count h (λ e. some (ap (λ (p : Pair). p.value) (sym (value_at count pair rest)) ∙ e))

-- runs that a value ends and that are wanted whole are the same
one-token : (n kp count count' : ℕ) (pair pair' : Pair) (bits x y : List Bool) → IsToken kp (LastRun count pair) → IsToken kp (LastRun count' pair')
    → Spelled bits (code kp (LastRun count pair)) x → Spelled bits (code kp (LastRun count' pair')) y
    → (count ≡ count') × (pair.width ≡ pair'.width → (pair ≡ pair') × (x ≡ y))
unfolding code IsToken
one-token n kp count count' pair pair' bits x y f g p q =
    let tail : Pair → List Bool = λ pair. zeros_code (2 ^ pair.width - 2) (unsigned_abs pair.value - 1) in
    let one = spelled-apart (drop 1 bits) (digits (k kp) count) (is_negative pair.value ∷ tail pair) x p.1 in
    let other = spelled-apart (drop 1 bits) (digits (k kp) count') (is_negative pair'.value ∷ tail pair') y q.1 in
    let count-one = number-spelled (k kp) count (drop 1 bits) one.0 f.0 one.1 in
    let count-other = number-spelled (k kp) count' (drop 1 bits) other.0 g.0 other.1 in
    let behind : one.0 ≡ other.0 = count-one.1 ∙ sym count-other.1 in
    let sign : is_negative pair.value ≡ is_negative pair'.value = sym one.2.0 ∙ ap first behind ∙ other.2.0 in (
      sym count-one.0 ∙ count-other.0,
      λ widths.
          let magnitudes =
          one-magnitude (2 ^ pair.width - 2) (unsigned_abs pair.value - 1) (unsigned_abs pair'.value - 1) (drop 1 one.0) x y
          (omega (arith, f.1.1)) (omega (arith, g.1.1, ap (λ w. 2 ^ w) widths)) one.2.1
          (subst (λ w. Spelled (drop 1 one.0) (zeros_code (2 ^ w - 2) (unsigned_abs pair'.value - 1)) y) (sym widths)
          (subst (λ b. Spelled (drop 1 b) (tail pair') y) (sym behind) other.2.1)) in
          let values : pair.value ≡ pair'.value = signed-only pair.value pair'.value f.1.0 g.1.0 sign magnitudes.0 in
          (λ i. record { value = values i; width = widths i }, magnitudes.1),
    )

-- zeros and a value behind them
abbrev front-of : ℕ → Pair → List Pair
front-of count pair = replicate count nothing ++ pair ∷ []

-- runs that a value ends, and the same behind them
ends-same : (n : ℕ) (widths : ℕ → ℕ) (kp count count' : ℕ) (pair pair' : Pair) (xs ys : List Pair) (bits mid mid' : List Bool)
    → IsToken kp (LastRun count pair) → IsToken kp (LastRun count' pair') → Spelled bits (code kp (LastRun count pair)) mid → Spelled bits (code kp (LastRun count' pair')) mid'
    → Fit n widths (front-of count pair ++ xs) → Fit n widths (front-of count' pair' ++ ys)
    → (count ≡ count' → mid ≡ mid' → Fit (n - length (front-of count pair)) (λ i. widths (length (front-of count pair) + i)) xs
    → Fit (n - length (front-of count pair)) (λ i. widths (length (front-of count pair) + i)) ys
    → take (n - length (front-of count pair)) xs ≡ take (n - length (front-of count pair)) ys)
    → take n (front-of count pair ++ xs) ≡ take n (front-of count' pair' ++ ys)
unfolding IsToken
ends-same n widths kp count count' pair pair' xs ys bits mid mid' f g p q a b behind = by (cases_lt count n)
  where
    token : (count ≡ count') × (pair.width ≡ pair'.width → (pair ≡ pair') × (mid ≡ mid'))
    token = one-token n kp count count' pair pair' bits mid mid' f g p q

    by : ((count < n) ⊎ (n ≤ count)) → take n (front-of count pair ++ xs) ≡ take n (front-of count' pair' ++ ys)
    by (inr few) =
        ap (take n) (append_assoc (replicate count nothing) (pair ∷ []) xs)
        ∙ zeros-alone n count (pair ∷ xs) (pair' ∷ ys) few
        ∙ ap (λ c. take n (replicate c nothing ++ (pair' ∷ ys))) token.0
        ∙ ap (take n) (sym (append_assoc (replicate count' nothing) (pair' ∷ []) ys))
    by (inl more) =
        let same =
        token.1
        (width-at n count widths pair xs more f.1.0 a ∙ ap widths token.0
        ∙ sym (width-at n count' widths pair' ys (omega (arith, token.0)) g.1.0 b)) in
        let fronts : front-of count pair ≡ front-of count' pair' = λ i. replicate (token.0 i) nothing ++ same.0 i ∷ [] in
        front-same n (front-of count pair) xs ys
        (behind token.0 same.1 (fit-behind n widths (front-of count pair) xs a)
        (fit-behind n widths (front-of count pair) ys (subst (λ l. Fit n widths (l ++ ys)) (sym fronts) b)))
        ∙ ap (λ l. take n (l ++ ys)) fronts

front-length : (count : ℕ) (pair : Pair) → length (front-of count pair) ≡ count + 1
front-length count pair = length-append (replicate count nothing) (pair ∷ []) ∙ ap (λ n. n + 1) (length-replicate count nothing)

same-terms : (n : ℕ) (widths : ℕ → ℕ) (kp : ℕ) (one other : List Token) (bits x y : List Bool) → AreTokens kp one → AreTokens kp other
    → Spelled bits (codes kp one) x → Spelled bits (codes kp other) y → n ≤ length (terms kp one) → n ≤ length (terms kp other)
    → Fit n widths (terms kp one) → Fit n widths (terms kp other) → take n (terms kp one) ≡ take n (terms kp other)
unfolding code codes AreTokens IsToken terms terms_of after
same-terms n widths kp [] other bits x y f g p q l m a b =
    let none : n ≡ 0 = omega arith in
    ap (λ k. take k (terms kp [])) none ∙ sym (ap (λ k. take k (terms kp other)) none)
same-terms n widths kp (t ∷ one) [] bits x y f g p q l m a b =
    let none : n ≡ 0 = omega arith in
    ap (λ k. take k (terms kp (t ∷ one))) none ∙ sym (ap (λ k. take k (terms kp [])) none)
same-terms n widths kp (Run ∷ one) (LastRun count pair ∷ other) bits x y f g p q l m a b = absurd (true-false (sym q.0 ∙ p.0))
same-terms n widths kp (LastRun count pair ∷ one) (Run ∷ other) bits x y f g p q l m a b = absurd (true-false (sym p.0 ∙ q.0))
same-terms n widths kp (Run ∷ one) (Run ∷ other) bits x y f g p q l m a b =
    let front : List Pair = replicate (2 ^ k kp) nothing in
    front-same n front (terms (after kp Run) one) (terms (after kp Run) other)
    (same-terms (n - length front) (λ i. widths (length front + i)) (after kp Run) one other (drop 1 bits) x y f.1 g.1 p.1 q.1
    (omega (arith, length-append front (terms (after kp Run) one)))
    (omega (arith, length-append front (terms (after kp Run) other)))
    (fit-behind n widths front (terms (after kp Run) one) a)
    (fit-behind n widths front (terms (after kp Run) other) b))
same-terms n widths kp (LastRun count pair ∷ one) (LastRun count' pair' ∷ other) bits x y f g p q l m a b =
    let parts = spelled-apart bits (code kp (LastRun count pair)) (codes (kp - 6) one) x p in
    let parts' = spelled-apart bits (code kp (LastRun count' pair')) (codes (kp - 6) other) y q in
    ends-same n widths kp count count' pair pair' (terms (kp - 6) one) (terms (kp - 6) other) bits parts.0 parts'.0 f.0 g.0 parts.1 parts'.1 a b
    (λ counts mids fit fit'.
    same-terms (n - length (front-of count pair)) (λ i. widths (length (front-of count pair) + i)) (kp - 6) one other parts.0 x y f.1 g.1 parts.2
    (subst (λ b. Spelled b (codes (kp - 6) other) y) (sym mids) parts'.2)
    (omega (arith, length-append (front-of count pair) (terms (kp - 6) one)))
    (omega (arith, length-append (front-of count' pair') (terms (kp - 6) other), counts, front-length count pair, front-length count' pair'))
    fit fit')

-- ---- pairs

plain-fit : (pairs : List Pair) → Fit (length pairs) (λ i. get_or (map width_of pairs) i 0) (map plain pairs)
plain-fit [] i h some = absurd (omega arith)
plain-fit (pair ∷ pairs) zero h some = plain-width pair.value pair.width some
  where
    plain-width : (value : ℤ) (width : ℕ) → (plain (pair_of value width)).value ≢ pos 0 → (plain (pair_of value width)).width ≡ width
    plain-width (pos zero) width some = absurd (some refl)
    plain-width (pos (suc n)) width some = refl
    plain-width (negsuc n) width some = refl
plain-fit (pair ∷ pairs) (suc i) h some = plain-fit pairs i (omega arith) some

plain-values : (value : ℤ) (width : ℕ) → (plain (pair_of value width)).value ≡ value
plain-values (pos zero) width = refl
plain-values (pos (suc n)) width = refl
plain-values (negsuc n) width = refl

same-pairs : (one other : List Pair) → map plain one ≡ map plain other → map width_of one ≡ map width_of other → one ≡ other
same-pairs [] [] e f = refl
same-pairs [] (b ∷ other) e f = absurd (omega (arith, ap length e))
same-pairs (a ∷ one) [] e f = absurd (omega (arith, ap length e))
same-pairs (a ∷ one) (b ∷ other) e f =
    let head : plain a ≡ plain b = ap (λ l. get_or l 0 nothing) e in
    let values : a.value ≡ b.value = sym (plain-values a.value a.width) ∙ ap (λ (p : Pair). p.value) head ∙ plain-values b.value b.width in
    let widths : a.width ≡ b.width = ap (λ l. get_or l 0 0) f in
    let rest : one ≡ other = same-pairs one other (ap (drop 1) e) (ap (drop 1) f) in
    λ i. (record { value = values i; width = widths i }) ∷ rest i

-- what pairs are given as fits their widths
gives-fit : (pairs left : List Pair) → take (length pairs) left ≡ map plain pairs → (length pairs ≤ length left) × Fit (length pairs) (λ i. get_or (map width_of pairs) i 0) left
gives-fit pairs left e = (
  omega (arith, ap length e, length-map pairs plain, length-take (length pairs) left),
  λ i h. subst (λ p. p.value ≢ pos 0 → p.width ≡ get_or (map width_of pairs) i 0)
      (ap (λ l. get_or l i nothing) (sym e) ∙ get_or-take (length pairs) left i nothing h) (plain-fit pairs i h),
)

pub one-meaning : (bits : List Bool) (one other : List Pair) → map width_of one ≡ map width_of other → Srl bits one → Srl bits other → one ≡ other
one-meaning bits one other widths p q =
    let long : length one ≡ length other = sym (length-map one width_of) ∙ ap length widths ∙ length-map other width_of in
    let fit = gives-fit one (terms 8 p.tokens) p.gives in
    let fit' = gives-fit other (terms 8 q.tokens) q.gives in
    same-pairs one other
    (sym p.gives
    ∙ same-terms (length one) (λ i. get_or (map width_of one) i 0) 8 p.tokens q.tokens bits p.spelled.0 q.spelled.0 p.tokens_fit q.tokens_fit p.spelled.1 q.spelled.1
    fit.0 (omega (arith, fit'.0)) fit.1
    (λ i h some. fit'.1 i (omega arith) some ∙ ap (λ l. get_or l i 0) (sym widths))
    ∙ ap (λ n. take n (terms 8 q.tokens)) long ∙ q.gives)
    widths
