-- The lists that the joining functions write are lines.
use Rattle.std.proofs.Common.{◌≡◌, ℕ, ◌+◌, ◌-◌, ◌*◌, ◌<◌, ◌≤◌, ℤ, pos, List, length, set, arith, below_more, sym, refl, ◌∙◌}
use Rattle.std.proofs.lemmas.Grind.{common_steps}
use Rattle.gfx_dwt.specs.declared.layout.Transform.{Transform}
use Rattle.gfx_dwt.specs.declared.layout.Transform.TheVariants.{Plain, Reduced}
use Rattle.gfx_dwt.specs.declared.layout.Scale.{Scale}
use Rattle.gfx_dwt.specs.declared.layout.Scale.TheVariants.{First}
use Rattle.gfx_dwt.specs.Place.{high_size}
use Rattle.gfx_dwt.specs.Lifting.{even_of, odd_of}
use Rattle.gfx_dwt.specs.Joining.{lowered, even, odd, joined}
use Rattle.gfx_dwt.specs.Ranges.{at}
use Rattle.gfx_dwt.proofs.Edges.{high_some, even_inside, odd_inside, odd_last_plain, odd_last_reduced, even_first_last, odd_first_last, joined_even, joined_odd, by_parity}
use Rattle.gfx_dwt.proofs.Pairs.{PairsAre, pair_put}

-- all pairs before the last place of the high half
pub inner_pairs : (t : Transform) (l : Scale) (low high : ℕ → ℤ) (xs : List ℤ) → ((k : ℕ) → k + 1 < high_size t l → at xs (2 * k) ≡ lowered t low high k) → ((k : ℕ) → k + 1 < high_size t l → at xs (2 * k + 1) ≡ odd_of t (high k) (lowered t low high k) (lowered t low high (k + 1))) → PairsAre xs (even t l low high) (odd t l low high) (high_size t l - 1)
inner_pairs t l low high xs evens odds = record {
  evens_are = λ j h. evens j (omega arith) ∙ sym (even_inside t l low high j (omega arith));
  odds_are = λ j h. odds j (omega arith) ∙ sym (odd_inside t l low high j (omega arith));
}

-- a list of pairs is a line
pub line_of_pairs : (t : Transform) (l : Scale) (low high : ℕ → ℤ) (xs : List ℤ) (m : ℕ) → PairsAre xs (even t l low high) (odd t l low high) m → (k : ℕ) → k < 2 * m → at xs k ≡ joined t l low high k
line_of_pairs t l low high xs m p =
    by_parity (λ k. at xs k ≡ joined t l low high k) (2 * m)
    (λ n h. p.evens_are n (omega arith) ∙ sym (joined_even t l low high n))
    (λ n h. p.odds_are n (omega arith) ∙ sym (joined_odd t l low high n))

pub plain_line : (l : Scale) (low high : ℕ → ℤ) (xs : List ℤ) (m : ℕ) (sample last : ℤ) → m ≡ high_size Plain l → length xs ≡ 2 * m → ((k : ℕ) → k + 1 < m → at xs (2 * k) ≡ lowered Plain low high k) → ((k : ℕ) → k + 1 < m → at xs (2 * k + 1) ≡ odd_of Plain (high k) (lowered Plain low high k) (lowered Plain low high (k + 1))) → sample ≡ lowered Plain low high (m - 1) → last ≡ odd_of Plain (high (m - 1)) sample sample → (k : ℕ) → k < 2 * m → at (set (set xs (2 * (m - 1)) sample) (2 * (m - 1) + 1) last) k ≡ joined Plain l low high k
plain_line l low high xs m sample last e n evens odds s o k h =
    let some = high_some Plain l in
    let inner = inner_pairs Plain l low high xs (λ j p. evens j (omega arith)) (λ j p. odds j (omega arith)) in
    let s' : sample ≡ even Plain l low high (high_size Plain l - 1) = s ∙ rw e (sym (even_inside Plain l low high (high_size Plain l - 1) (omega arith))) in
    let o' : last ≡ odd Plain l low high (high_size Plain l - 1) = o ∙ rw (e, s') (sym (odd_last_plain l low high)) in
    let all = pair_put xs _ _ (high_size Plain l - 1) sample last (omega arith) s' o' inner in
    rw e (line_of_pairs Plain l low high _ (high_size Plain l - 1 + 1) all k (omega arith))

-- the first pairs of a line of reduce-extrapolate, up to the last place of the high half
pub reduced_pairs_all : (l : Scale) (low high : ℕ → ℤ) (xs : List ℤ) (m : ℕ) (sample next last : ℤ) → m ≡ high_size Reduced l → 2 * m ≤ length xs → ((k : ℕ) → k + 1 < m → at xs (2 * k) ≡ lowered Reduced low high k) → ((k : ℕ) → k + 1 < m → at xs (2 * k + 1) ≡ odd_of Reduced (high k) (lowered Reduced low high k) (lowered Reduced low high (k + 1))) → sample ≡ lowered Reduced low high (m - 1) → next ≡ even Reduced l low high m → last ≡ odd_of Reduced (high (m - 1)) sample next → PairsAre (set (set xs (2 * (m - 1)) sample) (2 * (m - 1) + 1) last) (even Reduced l low high) (odd Reduced l low high) m
reduced_pairs_all l low high xs m sample next last e n evens odds s x o =
    let some = high_some Reduced l in
    let inner = inner_pairs Reduced l low high xs (λ j p. evens j (omega arith)) (λ j p. odds j (omega arith)) in
    let s' : sample ≡ even Reduced l low high (high_size Reduced l - 1) = s ∙ rw e (sym (even_inside Reduced l low high (high_size Reduced l - 1) (omega arith))) in
    let x' : next ≡ even Reduced l low high (high_size Reduced l) = x ∙ rw e refl in
    let o' : last ≡ odd Reduced l low high (high_size Reduced l - 1) = o ∙ rw (e, s', x') (sym (odd_last_reduced l low high)) in
    let all = pair_put xs _ _ (high_size Reduced l - 1) sample last (omega arith) s' o' inner in
    let more : high_size Reduced l - 1 + 1 ≡ high_size Reduced l = omega arith in
    rw e (rw more at all)

-- one even sample more behind the pairs
pub later_line : (l : Scale) (low high : ℕ → ℤ) (xs : List ℤ) (m : ℕ) (next : ℤ) → 2 * m < length xs → PairsAre xs (even Reduced l low high) (odd Reduced l low high) m → next ≡ even Reduced l low high m → (k : ℕ) → k < 2 * m + 1 → at (set xs (2 * m) next) k ≡ joined Reduced l low high k
later_line l low high xs m next n p x =
    by_parity (λ k. at (set xs (2 * m) next) k ≡ joined Reduced l low high k) (2 * m + 1)
    (λ j h. below_more (λ i. at (set xs (2 * m) next) (2 * i) ≡ joined Reduced l low high (2 * i)) m
    (λ i below. grind (arith, common_steps, p.evens_are i below, joined_even Reduced l low high i))
    (grind (arith, common_steps, x, joined_even Reduced l low high m)) j (omega arith))
    (λ j h. grind (arith, common_steps, p.odds_are j (omega arith), joined_odd Reduced l low high j))

-- one pair more behind the pairs, at the first level
pub first_line : (low high : ℕ → ℤ) (xs : List ℤ) (next beyond last : ℤ) → length xs ≡ 64 → PairsAre xs (even Reduced First low high) (odd Reduced First low high) 31 → next ≡ even Reduced First low high 31 → beyond ≡ even_of Reduced (low 32) (pos 0) (pos 0) → last ≡ odd_of Reduced (pos 0) next beyond → (k : ℕ) → k < 64 → at (set (set xs 62 next) 63 last) k ≡ joined Reduced First low high k
first_line low high xs next beyond last n p x b o k h =
    let y : beyond ≡ even Reduced First low high 32 = b ∙ sym (even_first_last low high) in
    let o' : last ≡ odd Reduced First low high 31 = o ∙ rw (x, y) (sym (odd_first_last low high)) in
    line_of_pairs Reduced First low high _ 32 (pair_put xs _ _ 31 next last (omega arith) x o' p) k h
