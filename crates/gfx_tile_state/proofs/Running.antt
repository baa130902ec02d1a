-- Sums of values and all before them.
use Rattle.std.proofs.Common.{◌≡◌, ℕ, zero, suc, ◌+◌, ◌<◌, ℤ, pos, ◌+ℤ◌, List, [], ◌∷◌, ◌++◌, length, take, drop, set, refl, sym, ap, ◌∙◌, arith, append_assoc}
use Rattle.std.proofs.Math.Seq.{set-append_seam}
use Rattle.std.proofs.lemmas.List.{drop_more, take_more, length-take-le, get_or-append-add}
use Rattle.gfx_dwt.specs.Ranges.{at}
use Rattle.gfx_tile_state.specs.Passes.{running}

-- all values
unfoldable pub total : ℤ → List ℤ → ℤ
total sum [] = sum
total sum (x ∷ xs) = total (sum +ℤ x) xs

pub total-last : (sum : ℤ) (xs : List ℤ) (x : ℤ) → total sum (xs ++ x ∷ []) ≡ total sum xs +ℤ x
unfolding total
total-last sum [] x = refl
total-last sum (y ∷ xs) x = total-last (sum +ℤ y) xs x

pub running-last : (sum : ℤ) (xs : List ℤ) (x : ℤ) → running sum (xs ++ x ∷ []) ≡ running sum xs ++ (total sum xs +ℤ x) ∷ []
unfolding total running
running-last sum [] x = refl
running-last sum (y ∷ xs) x = ap (λ l. (sum +ℤ y) ∷ l) (running-last (sum +ℤ y) xs x)

pub running-length : (sum : ℤ) (xs : List ℤ) → length (running sum xs) ≡ length xs
unfolding running
running-length sum [] = refl
running-length sum (x ∷ xs) = ap suc (running-length (sum +ℤ x) xs)

pub running-at : (sum : ℤ) (xs : List ℤ) (i : ℕ) → i < length xs → at (running sum xs) i ≡ total sum (take i xs) +ℤ at xs i
unfolding total running
running-at sum [] i h = absurd (omega arith)
running-at sum (x ∷ xs) zero h = refl
running-at sum (x ∷ xs) (suc i) h = running-at (sum +ℤ x) xs i (omega arith)

-- the next value is still as it was
pub due-here : (all values : List ℤ) (i : ℕ) → i < length all → values ≡ running (pos 0) (take i all) ++ drop i all → at values i ≡ at all i
due-here all values i h e =
    let long : length (running (pos 0) (take i all)) ≡ i = running-length (pos 0) (take i all) ∙ length-take-le i all (omega arith) in
    ap (λ l. at l i) e
    ∙ ap (λ n. at (running (pos 0) (take i all) ++ drop i all) n) {y = length (running (pos 0) (take i all)) + 0} (omega arith)
    ∙ get_or-append-add (running (pos 0) (take i all)) (drop i all) 0 (pos 0)
    ∙ ap (λ l. at l 0) (drop_more all i (pos 0) h)

-- one more sum stands in its place
pub sums-more : (all values : List ℤ) (i : ℕ) (x y : ℤ) → i < length all → values ≡ running (pos 0) (take i all) ++ drop i all → x ≡ total (pos 0) (take i all) → y ≡ x +ℤ at all i
    → (set values i y ≡ running (pos 0) (take (i + 1) all) ++ drop (i + 1) all) × (y ≡ total (pos 0) (take (i + 1) all))
sums-more all values i x y h e f g =
    let last : y ≡ total (pos 0) (take i all) +ℤ at all i = g ∙ ap (λ (z : ℤ). z +ℤ at all i) f in (
      ap (λ l. set l i y) e
          ∙ ap (λ l. set (running (pos 0) (take i all) ++ l) i y) (drop_more all i (pos 0) h)
          ∙ ap (λ n. set (running (pos 0) (take i all) ++ (at all i ∷ drop (i + 1) all)) n y) (sym (running-length (pos 0) (take i all) ∙ length-take-le i all (omega arith)))
          ∙ set-append_seam (running (pos 0) (take i all)) (at all i) (drop (i + 1) all) y
          ∙ sym (ap (λ l. running (pos 0) l ++ drop (i + 1) all) (take_more all i (pos 0) h) ∙ ap (λ l. l ++ drop (i + 1) all) (running-last (pos 0) (take i all) (at all i)) ∙ append_assoc (running (pos 0) (take i all)) (_ ∷ []) (drop (i + 1) all) ∙ ap (λ z. running (pos 0) (take i all) ++ (z ∷ drop (i + 1) all)) (sym last)),
      last ∙ sym (ap (total (pos 0)) (take_more all i (pos 0) h) ∙ total-last (pos 0) (take i all) (at all i)),
    )
