-- Planes by their bands, place by place.
use Rattle.std.proofs.Common.{◌≡◌, ◌∙◌, ℕ, zero, suc, ◌+◌, ◌<◌, ℤ, pos, ◌-ℤ◌, List, [], ◌∷◌, length, refl, sym, ap, arith}
use Rattle.std.proofs.lemmas.List.{ext_get_or}
use Rattle.gfx_dwt.specs.declared.layout.Transform.{Transform}
use Rattle.gfx_dwt.specs.declared.layout.Band.{Band}
use Rattle.gfx_dwt.specs.Ranges.{at}
use Rattle.gfx_quant.specs.Planes.{MapsBands}
use Rattle.gfx_tile_state.specs.Entries.{band_at}
use Rattle.gfx_tile_state.proofs.Bands.{lies-at}
use Rattle.gfx_tile_make.specs.Planes.{by_band_from, by_band, less}

length-by_band_from : (t : Transform) (f : Band → ℤ → ℤ) (k : ℕ) (xs : List ℤ) → length (by_band_from t f k xs) ≡ length xs
unfolding by_band_from
length-by_band_from t f k [] = refl
length-by_band_from t f k (x ∷ xs) = ap suc (length-by_band_from t f (suc k) xs)

pub length-by_band : (t : Transform) (f : Band → ℤ → ℤ) (xs : List ℤ) → length (by_band t f xs) ≡ length xs
length-by_band t f xs = length-by_band_from t f 0 xs

at-by_band_from : (t : Transform) (f : Band → ℤ → ℤ) (k : ℕ) (xs : List ℤ) (i : ℕ) → i < length xs → at (by_band_from t f k xs) i ≡ f (band_at t (k + i)) (at xs i)
unfolding by_band_from
at-by_band_from t f k [] i h = absurd (omega arith)
at-by_band_from t f k (x ∷ xs) zero h = ap (λ j. f (band_at t j) x) {x = k} {y = k + 0} (omega arith)
at-by_band_from t f k (x ∷ xs) (suc i) h = at-by_band_from t f (suc k) xs i (omega arith) ∙ ap (λ j. f (band_at t j) (at xs i)) {x = suc k + i} {y = k + suc i} (omega arith)

-- a place of such a plane
pub at-by_band : (t : Transform) (f : Band → ℤ → ℤ) (xs : List ℤ) (k : ℕ) → k < length xs → at (by_band t f xs) k ≡ f (band_at t k) (at xs k)
at-by_band t f xs k h = at-by_band_from t f 0 xs k h ∙ ap (λ j. f (band_at t j) (at xs k)) {x = 0 + k} {y = k} (omega arith)

pub length-less : (xs ys : List ℤ) → length xs ≡ length ys → length (less xs ys) ≡ length xs
unfolding less
length-less [] ys e = refl
length-less (x ∷ xs) [] e = absurd (omega arith)
length-less (x ∷ xs) (y ∷ ys) e = ap suc (length-less xs ys (omega arith))

pub at-less : (xs ys : List ℤ) (k : ℕ) → length xs ≡ length ys → k < length xs → at (less xs ys) k ≡ at xs k -ℤ at ys k
unfolding less
at-less [] ys k e h = absurd (omega arith)
at-less (x ∷ xs) [] k e h = absurd (omega arith)
at-less (x ∷ xs) (y ∷ ys) zero e h = refl
at-less (x ∷ xs) (y ∷ ys) (suc k) e h = at-less xs ys k (omega arith) (omega arith)

pub same-planes : (xs ys : List ℤ) (n : ℕ) → length xs ≡ n → length ys ≡ n → ((k : ℕ) → k < n → at xs k ≡ at ys k) → xs ≡ ys
same-planes xs ys n e f h = ext_get_or (pos 0) xs ys (e ∙ sym f) (λ i less. h i (omega arith))

-- a plane of these numbers
pub is-by_band : (t : Transform) (f : Band → ℤ → ℤ) (xs ys : List ℤ) → length xs ≡ 4096 → length ys ≡ 4096 → ((k : ℕ) → k < 4096 → at ys k ≡ f (band_at t k) (at xs k)) → ys ≡ by_band t f xs
is-by_band t f xs ys long long' h =
    same-planes ys (by_band t f xs) 4096 long' (length-by_band t f xs ∙ long) (λ k less. h k less ∙ sym (at-by_band t f xs k (omega arith)))

-- what is mapped in each band
pub mapped : (t : Transform) (f : Band → ℤ → ℤ) (xs ys : List ℤ) → length xs ≡ 4096 → length ys ≡ 4096 → MapsBands t f xs ys → ys ≡ by_band t f xs
mapped t f xs ys long long' maps = is-by_band t f xs ys long long' (λ k h. maps (band_at t k) k (lies-at t k h))
