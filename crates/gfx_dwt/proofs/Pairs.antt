-- A list that is filled pair by pair.
use Rattle.std.proofs.Common.{◌≡◌, ◌≢◌, ℕ, ◌+◌, ◌*◌, ◌<◌, ◌≤◌, ℤ, pos, List, length, set, arith, below_more, get_or-set_other, ◌∙◌}
use Rattle.std.proofs.lemmas.Grind.{common_steps}
use Rattle.gfx_dwt.specs.Ranges.{at}

-- the first k pairs of a list are these
pub record PairsAre (xs : List ℤ) (evens odds : ℕ → ℤ) (k : ℕ) : Type 0 where
  pub evens_are : (j : ℕ) → j < k → at xs (2 * j) ≡ evens j
  pub odds_are : (j : ℕ) → j < k → at xs (2 * j + 1) ≡ odds j

pub pair_put : (xs : List ℤ) (f g : ℕ → ℤ) (k : ℕ) (e o : ℤ) → 2 * k + 1 < length xs → e ≡ f k → o ≡ g k → PairsAre xs f g k → PairsAre (set (set xs (2 * k) e) (2 * k + 1) o) f g (k + 1)
pair_put xs f g k e o h p q r = record {
  evens_are = below_more (λ j. at (set (set xs (2 * k) e) (2 * k + 1) o) (2 * j) ≡ f j) k (λ j l. grind (arith, common_steps, r.evens_are j)) (grind (arith, common_steps));
  odds_are = below_more (λ j. at (set (set xs (2 * k) e) (2 * k + 1) o) (2 * j + 1) ≡ g j) k (λ j l. grind (arith, common_steps, r.odds_are j)) (grind (arith, common_steps));
}

-- one place more is written
pub put_next : (xs : List ℤ) (f : ℕ → ℤ) (k : ℕ) (v : ℤ) → k < length xs → v ≡ f k → ((j : ℕ) → j < k → at xs j ≡ f j) → (j : ℕ) → j < k + 1 → at (set xs k v) j ≡ f j
put_next xs f k v h e before = below_more (λ j. at (set xs k v) j ≡ f j) k (λ j l. grind (arith, common_steps, before j l)) (grind (arith, common_steps))

-- the places behind the one that is written stay
pub put_keeps : (xs ys : List ℤ) (k : ℕ) (v : ℤ) → ((j : ℕ) → k ≤ j → at xs j ≡ at ys j) → (j : ℕ) → k + 1 ≤ j → at (set xs k v) j ≡ at ys j
put_keeps xs ys k v same j h =
    let apart : j ≢ k = omega arith in
    get_or-set_other xs k j v (pos 0) apart ∙ same j (omega arith)

-- one place more is written, and of each there holds what shall
pub put_holds : (P : ℕ → ℤ → Type 0) (xs : List ℤ) (k : ℕ) (v : ℤ) → k < length xs → P k v → ((j : ℕ) → j < k → P j (at xs j)) → (j : ℕ) → j < k + 1 → P j (at (set xs k v) j)
put_holds P xs k v h here before =
    below_more (λ j. P j (at (set xs k v) j)) k
    (λ j l. let same : at (set xs k v) j ≡ at xs j = grind (arith, common_steps) in rw same (before j l))
    (let same : at (set xs k v) k ≡ v = grind (arith, common_steps) in rw same here)
