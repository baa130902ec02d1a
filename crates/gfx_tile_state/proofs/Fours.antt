-- Four raw numbers that are read by one look.
use Rattle.std.proofs.Common.{◌≡◌, ◌∙◌, ℕ, ◌+◌, ◌*◌, ◌^◌, ◌<◌, ◌≤◌, Bool, true, false, ◌&&◌, List, drop, refl, pos, ap, sym, arith, FitsSigned, w32, to_z, lit<}
use Rattle.std.proofs.lemmas.Int.{to_z-of_z, ints}
use Rattle.std.proofs.lemmas.List.{drop-drop}
use Rattle.std.proofs.Math.Nat.{pow-le-pow_right}
use Rattle.gfx_bits.specs.Bits.{number}
use Rattle.gfx_bits.proofs.Laws.{number_below}
use Rattle.gfx_dwt.specs.Ranges.{Within}
use Rattle.gfx_tile_state.proofs.Sums.{within_bits}

below : (n r : ℕ) (bits : List Bool) → r ≡ number n bits → r < 2 ^ n
below n r bits is = omega (arith, is, number_below n bits)

pub fits-number : (n r : ℕ) (bits : List Bool) → n ≤ 14 → r ≡ number n bits → FitsSigned w32 (pos r)
fits-number n r bits few is =
    let most : 2 ^ n ≤ 2 ^ 14 = pow-le-pow_right (lit< tt) few in
    record { sfits = omega (arith, ints, below n r bits is) }

pub plain-number : (n r : ℕ) (bits : List Bool) → n ≤ 14 → r ≡ number n bits → to_z w32 r ≡ pos (number n bits)
plain-number n r bits few is = to_z-of_z w32 (pos r) (fits-number n r bits few is) ∙ ap (λ m. pos m) is

pub small-number : (n r : ℕ) (bits : List Bool) → n ≤ 14 → r ≡ number n bits → Within (2 ^ 24) (to_z w32 r)
small-number n r bits few is =
    rw (to_z-of_z w32 (pos r) (fits-number n r bits few is)) (within_bits (pos r) n (omega arith) (below n r bits is))

pub two-on : (n : ℕ) (bits : List Bool) → drop (2 * n) bits ≡ drop n (drop n bits)
two-on n bits = ap (λ m. drop m bits) {y = n + n} (omega arith) ∙ sym (drop-drop n n bits)

pub three-on : (n : ℕ) (bits : List Bool) → drop (3 * n) bits ≡ drop n (drop n (drop n bits))
three-on n bits = ap (λ m. drop m bits) {y = 2 * n + n} (omega arith) ∙ sym (drop-drop n (2 * n) bits) ∙ ap (drop n) (two-on n bits)

pub four-on : (n : ℕ) (bits : List Bool) → drop (4 * n) bits ≡ drop n (drop n (drop n (drop n bits)))
four-on n bits = ap (λ m. drop m bits) {y = 3 * n + n} (omega arith) ∙ sym (drop-drop n (3 * n) bits) ∙ ap (drop n) (three-on n bits)

pub all-four : (fits a b c d : Bool) → ((((fits && a) && b) && c) && d) ≡ (fits && (((a && b) && c) && d))
all-four true a b c d = refl
all-four false a b c d = refl
