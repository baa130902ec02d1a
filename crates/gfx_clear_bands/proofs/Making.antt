-- What the reader makes of a column's bytes.
use Rattle.std.proofs.Common.{◌≡◌, ℕ, zero, suc, ◌+◌, ◌*◌, List, [], ◌∷◌, ◌++◌, length, drop, slice_index, refl, ap, ◌∙◌, arith, add-one}
use Rattle.std.proofs.lemmas.List.{get_or-drop}
use Rattle.gfx_clear_bands.specs.Bars.{colour_at, colours}

pub colour_at-drop : (k at : ℕ) (bytes : List ℕ) → colour_at (drop k bytes) at ≡ colour_at bytes (k + at)
colour_at-drop k at bytes = λ i. record {
  b = get_or-drop k bytes at 0 i;
  g = (get_or-drop k bytes (at + 1) 0 ∙ ap (λ z. slice_index bytes z) (plus 1)) i;
  r = (get_or-drop k bytes (at + 2) 0 ∙ ap (λ z. slice_index bytes z) (plus 2)) i;
}
  where
    plus : (n : ℕ) → k + (at + n) ≡ k + at + n
    plus n = omega arith

colours-suc : (n : ℕ) (bytes : List ℕ) → colours (suc n) bytes ≡ colours n bytes ++ colour_at bytes (3 * n) ∷ []
unfolding colours
colours-suc zero bytes = refl
colours-suc (suc n) bytes =
    let at : 3 + 3 * n ≡ 3 * suc n = omega arith in
    ap (λ z. colour_at bytes 0 ∷ z)
    (colours-suc n (drop 3 bytes) ∙ ap (λ z. colours n (drop 3 bytes) ++ z ∷ []) (colour_at-drop 3 (3 * n) bytes ∙ ap (colour_at bytes) at))

-- one colour more
pub colours-more : (n : ℕ) (bytes : List ℕ) → colours (n + 1) bytes ≡ colours n bytes ++ colour_at bytes (3 * n) ∷ []
colours-more n bytes = ap (λ z. colours z bytes) (add-one n) ∙ colours-suc n bytes

pub colours-none : (bytes : List ℕ) → colours 0 bytes ≡ []
unfolding colours
colours-none bytes = refl

pub length-colours : (n : ℕ) (bytes : List ℕ) → length (colours n bytes) ≡ n
unfolding colours
length-colours zero bytes = refl
length-colours (suc n) bytes = ap suc (length-colours n (drop 3 bytes))
