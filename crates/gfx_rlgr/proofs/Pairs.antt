-- Pairs of values, the tokens that RLGR3 alone has.
use Rattle.std.proofs.Common.{◌≡◌, ℕ, zero, suc, ◌+◌, ◌-◌, ◌*◌, ◌/◌, ◌%◌, ◌^◌, ◌<◌, ◌≤◌, true, ℤ, pos, negsuc, [], ◌∷◌, refl, sym, ap, ◌∙◌, arith, nat_le, inl, inr}
use Rattle.std.proofs.lemmas.Bool.{le-leb, leb-true}
use Rattle.std.proofs.lemmas.Bool.Decides.{eqb_tells}
use Rattle.gfx_rlgr.specs.declared.mode.Mode.{Mode}
use Rattle.gfx_rlgr.specs.declared.mode.Mode.TheVariants.{Rlgr1, Rlgr3}
use Rattle.gfx_rlgr.specs.declared.params.Params.{Params}
use Rattle.gfx_rlgr.specs.Code.{Pair, folded, unfold_number, bit_length_within, bit_length, adds_up, first_of, terms_of}
use Rattle.gfx_rlgr.specs.Writes.{pair_of}

pub modes-differ : (mode : Mode) → mode ≡ Rlgr1 → mode ≡ Rlgr3 → ⊥
modes-differ mode one three = let e : Rlgr1 ≡ Rlgr3 = sym one ∙ three in cc

-- ---- how many binary digits a number has

pub below-length : (most n : ℕ) → n ≤ most → n < 2 ^ bit_length_within most n
unfolding bit_length_within
below-length zero n h = omega arith
below-length (suc most) zero h = omega arith
below-length (suc most) (suc n) h =
    let half : suc n / 2 < 2 ^ bit_length_within most (suc n / 2) = below-length most (suc n / 2) (omega (arith, h)) in
    let all : suc n < 2 ^ suc (bit_length_within most (suc n / 2)) = omega (arith, half) in
    all

pub short-length : (most n bound : ℕ) → n < 2 ^ bound → bit_length_within most n ≤ bound
unfolding bit_length_within
short-length zero n bound h = omega arith
short-length (suc most) zero bound h = omega arith
short-length (suc most) (suc n) zero h = absurd (omega (arith, h))
short-length (suc most) (suc n) (suc bound) h =
    let rest : bit_length_within most (suc n / 2) ≤ bound = short-length most (suc n / 2) bound (omega (arith, h)) in
    let all : suc (bit_length_within most (suc n / 2)) ≤ suc bound = omega (arith, rest) in
    all

-- ---- numbers and values

pub folded-unfold : (n : ℕ) → folded (unfold_number n) ≡ n
folded-unfold n = elim (eqb_tells (n % 2) 0)
    [ inl h ↦ rw h.0 (omega (arith, h.1)) | inr h ↦ rw h.0 (omega (arith, h.1)) ]

unfold-folded : (value : ℤ) → unfold_number (folded value) ≡ value
unfold-folded (pos n) =
    let even : 2 * n % 2 ≡ 0 = omega arith in
    let half : 2 * n / 2 ≡ n = omega arith in
    rw (even, half) refl
unfold-folded (negsuc n) =
    let odd : (2 * n + 1) % 2 ≡ 1 = omega arith in
    let half : (2 * n + 1) / 2 ≡ n = omega arith in
    rw (odd, half) refl

-- ---- two values as a pair

at-most : (one other : ℤ) → nat_le (folded one) (folded one + folded other) ≡ true
at-most one other = le-leb (folded one) (folded one + folded other) (omega arith)

pub pair-adds : (one other : ℤ) → adds_up (pair_of one other) ≡ true
pair-adds one other = at-most one other

pub pair-bits : (one other : ℤ) → folded one < 2 ^ bit_length (folded one + folded other)
pair-bits one other = omega (arith, below-length (folded one + folded other) (folded one + folded other) (omega arith))

pub pair-terms : (params : Params) (one other : ℤ) → terms_of params (pair_of one other) ≡ one ∷ (other ∷ [])
unfolding terms_of
pair-terms params one other =
    let rest : folded one + folded other - folded one ≡ folded other = omega arith in
    rw (at-most one other, rest, unfold-folded one, unfold-folded other) refl

-- ---- pairs that give the same values are the same

same-first : (sum one sum' one' : ℕ) → nat_le one sum ≡ true → nat_le one' sum' ≡ true → first_of sum one ≡ first_of sum' one' → one ≡ one'
same-first sum one sum' one' d e is =
    sym (folded-unfold one) ∙ ap folded (let same : unfold_number one ≡ unfold_number one' = rw (d, e) at is in same) ∙ folded-unfold one'

same-number : (n m : ℕ) → unfold_number n ≡ unfold_number m → n ≡ m
same-number n m is = sym (folded-unfold n) ∙ ap folded is ∙ folded-unfold m

pub same-pair : (sum one sum' one' : ℕ) → nat_le one sum ≡ true → nat_le one' sum' ≡ true → first_of sum one ≡ first_of sum' one'
    → unfold_number (sum - one) ≡ unfold_number (sum' - one') → Pair sum one ≡ Pair sum' one'
same-pair sum one sum' one' d e first second =
    let ones : one ≡ one' = same-first sum one sum' one' d e first in
    let others : sum - one ≡ sum' - one' = same-number (sum - one) (sum' - one') second in
    let sums : sum ≡ sum' = omega (arith, leb-true one sum d, leb-true one' sum' e, others) in
    ap (λ n. Pair n one) sums ∙ ap (Pair sum') ones
