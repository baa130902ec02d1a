-- The data of an upgrade say one list of entries.
use Rattle.std.proofs.Common.{◌≡◌, ◌∙◌, ℕ, suc, ◌+◌, ◌^◌, ◌<◌, Bool, ℤ, pos, neg_ℤ, List, [], ◌∷◌, ◌++◌, length, map, drop, get_or, refl, sym, ap, subst, arith}
use Rattle.std.specs.Int.RustNames.{unsigned_abs}
use Rattle.std.proofs.lemmas.List.{map-append}
use Rattle.gfx_bits.specs.Bits.{Spelled, digits}
use Rattle.gfx_bits.proofs.Laws.{spelled-apart, number-spelled}
use Rattle.gfx_srl.specs.Code.{Pair, nothing}
use Rattle.gfx_srl.specs.Srl.{width_of}
use Rattle.gfx_srl.proofs.Unique.{one-meaning}
use Rattle.gfx_dwt.specs.Ranges.{at}
use Rattle.gfx_tile_state.specs.Entries.{Way, Nothing, Counted, Up, Down, Coded, Fits, coded, raw, Pass, way_at, pairs_from, raw_from, AreEntries}

coded-width : (w : Way) (n : ℕ) (x y : ℤ) → map width_of (coded w n x) ≡ map width_of (coded w n y)
coded-width Nothing n x y = refl
coded-width Counted n x y = refl
coded-width Up n x y = refl
coded-width Down n x y = refl
coded-width Coded n x y = refl

-- which widths are coded doesn't hang on the entries
same-widths : (pass : Pass) (k : ℕ) (xs ys : List ℤ) → length xs ≡ length ys → map width_of (pairs_from pass k xs) ≡ map width_of (pairs_from pass k ys)
unfolding pairs_from
same-widths pass k [] [] e = refl
same-widths pass k [] (y ∷ ys) e = absurd (omega arith)
same-widths pass k (x ∷ xs) [] e = absurd (omega arith)
same-widths pass k (x ∷ xs) (y ∷ ys) e =
    map-append width_of (coded (way_at pass k) (pass.falls k) x) (pairs_from pass (suc k) xs)
    ∙ ap (λ l. l ++ map width_of (pairs_from pass (suc k) xs)) (coded-width (way_at pass k) (pass.falls k) x y)
    ∙ ap (λ l. map width_of (coded (way_at pass k) (pass.falls k) y) ++ l) (same-widths pass (suc k) xs ys (omega arith))
    ∙ sym (map-append width_of (coded (way_at pass k) (pass.falls k) y) (pairs_from pass (suc k) ys))

-- numbers of the same width at the front of the same bits
same-number : (n a b : ℕ) (rx ry bits r r' : List Bool) → a < 2 ^ n → b < 2 ^ n → Spelled bits (digits n a ++ rx) r → Spelled bits (digits n b ++ ry) r'
    → (a ≡ b) × ((mid : List Bool) × Spelled mid rx r × Spelled mid ry r')
same-number n a b rx ry bits r r' f g p q =
    let one = spelled-apart bits (digits n a) rx r p in
    let other = spelled-apart bits (digits n b) ry r' q in
    let first = number-spelled n a bits one.0 f one.1 in
    let second = number-spelled n b bits other.0 g other.1 in
    (sym first.0 ∙ second.0, (one.0, one.2, subst (λ m. Spelled m ry r') (second.1 ∙ sym first.1) other.2))

-- the first entry, and what is behind it
first-entry : (w : Way) (n : ℕ) (x y : ℤ) (ps qs : List Pair) (rx ry bits r r' : List Bool) → Fits w n x → Fits w n y
    → coded w n x ++ ps ≡ coded w n y ++ qs → Spelled bits (raw w n x ++ rx) r → Spelled bits (raw w n y ++ ry) r'
    → (x ≡ y) × ((ps ≡ qs) × ((mid : List Bool) × Spelled mid rx r × Spelled mid ry r'))
first-entry Nothing n x y ps qs rx ry bits r r' f g e p q = (f ∙ sym g, (e, (bits, p, q)))
first-entry Counted n x y ps qs rx ry bits r r' f g e p q =
    let same = same-number n (unsigned_abs x) (unsigned_abs y) rx ry bits r r' f.1 g.1 p q in
    (f.0 ∙ ap (λ m. pos m) same.0 ∙ sym g.0, (e, same.1))
first-entry Up n x y ps qs rx ry bits r r' f g e p q =
    let same = same-number n (unsigned_abs x) (unsigned_abs y) rx ry bits r r' f.1 g.1 p q in
    (f.0 ∙ ap (λ m. pos m) same.0 ∙ sym g.0, (e, same.1))
first-entry Down n x y ps qs rx ry bits r r' f g e p q =
    let same = same-number n (unsigned_abs x) (unsigned_abs y) rx ry bits r r' f.1 g.1 p q in
    (f.0 ∙ ap (λ m. neg_ℤ (pos m)) same.0 ∙ sym g.0, (e, same.1))
first-entry Coded n x y ps qs rx ry bits r r' f g e p q =
    (ap (λ l. (get_or l 0 nothing).value) e, (ap (drop 1) e, (bits, p, q)))

same-entries : (pass : Pass) (k : ℕ) (xs ys : List ℤ) (bits r r' : List Bool) → length xs ≡ length ys
    → ((i : ℕ) → i < length xs → Fits (way_at pass (k + i)) (pass.falls (k + i)) (at xs i)) → ((i : ℕ) → i < length ys → Fits (way_at pass (k + i)) (pass.falls (k + i)) (at ys i))
    → pairs_from pass k xs ≡ pairs_from pass k ys → Spelled bits (raw_from pass k xs) r → Spelled bits (raw_from pass k ys) r' → xs ≡ ys
unfolding pairs_from raw_from
same-entries pass k [] [] bits r r' long f g e p q = refl
same-entries pass k [] (y ∷ ys) bits r r' long f g e p q = absurd (omega arith)
same-entries pass k (x ∷ xs) [] bits r r' long f g e p q = absurd (omega arith)
same-entries pass k (x ∷ xs) (y ∷ ys) bits r r' long f g e p q =
    let here : k + 0 ≡ k = omega arith in
    let head =
    first-entry (way_at pass k) (pass.falls k) x y (pairs_from pass (suc k) xs) (pairs_from pass (suc k) ys) (raw_from pass (suc k) xs) (raw_from pass (suc k) ys) bits r r'
    (subst (λ j. Fits (way_at pass j) (pass.falls j) x) here (f 0 (omega arith))) (subst (λ j. Fits (way_at pass j) (pass.falls j) y) here (g 0 (omega arith))) e p q in
    let rest : xs ≡ ys =
    same-entries pass (suc k) xs ys head.1.1.0 r r' (omega arith)
    (λ i h. subst (λ j. Fits (way_at pass j) (pass.falls j) (at xs i)) {x = k + suc i} {y = suc k + i} (omega arith) (f (suc i) (omega arith)))
    (λ i h. subst (λ j. Fits (way_at pass j) (pass.falls j) (at ys i)) {x = k + suc i} {y = suc k + i} (omega arith) (g (suc i) (omega arith)))
    head.1.0 head.1.1.1 head.1.1.2 in
    λ i. head.0 i ∷ rest i

pub one-reading : (pass : Pass) (one other : List ℤ) → AreEntries pass one → AreEntries pass other → one ≡ other
one-reading pass one other p q =
    let long : length one ≡ length other = p.all ∙ sym q.all in
    same-entries pass 0 one other pass.bits p.numbers.0 q.numbers.0 long
    (λ i h. subst (λ j. Fits (way_at pass j) (pass.falls j) (at one i)) {x = i} {y = 0 + i} (omega arith) (p.fit i (omega (arith, p.all))))
    (λ i h. subst (λ j. Fits (way_at pass j) (pass.falls j) (at other i)) {x = i} {y = 0 + i} (omega arith) (q.fit i (omega (arith, q.all))))
    (one-meaning pass.srl (pairs_from pass 0 one) (pairs_from pass 0 other) (same-widths pass 0 one other long) p.pairs q.pairs)
    p.numbers.1 q.numbers.1
