-- The code of a value of two bits, by the three bits that it begins with.
use Rattle.std.proofs.Common.{◌≡◌, ℕ, zero, suc, ◌+◌, ◌-◌, ◌^◌, ◌<◌, ◌≤◌, Bool, true, false, cond, ℤ, pos, negsuc, List, [], ◌∷◌, drop, get_or, to_z, of_z, w8, w32, refl, sym, ap, subst, ◌∙◌, arith}
use Rattle.std.specs.Int.RustNames.{unsigned_abs}
use Rattle.std.proofs.lemmas.List.{append-nil, drop-drop}
use Rattle.gfx_bits.specs.Ahead.{Shows}
use Rattle.gfx_bits.specs.Bits.{Spelled, digits, first, number, zeros_code}
use Rattle.gfx_bits.proofs.Laws.{number_below, number-digits}
use Rattle.gfx_srl.specs.Code.{is_negative}

-- what a word shows of its first bits is a small number
pub three-below : (word r : ℕ) → word < 2 ^ 64 → ((shown : ℕ) (bits : List Bool) → 3 ≤ shown → shown ≤ 64 → Shows shown word bits → r ≡ number 3 bits) → r < 8
three-below word r low h =
    let bits : List Bool = digits 64 word in
    let here : number 64 bits ≡ word = ap (number 64) (sym (append-nil bits)) ∙ number-digits 64 word [] low in
    omega (arith, h 64 bits (omega arith) (omega arith) (omega (arith, here)), number_below 3 bits)

-- the value and the size that stand at a place of the tables, as the code has them
abbrev pub value_at : ℕ → ℤ
value_at at = to_z w32 (of_z w32 (to_z w8 (of_z w8 (get_or (pos 3 ∷ pos 2 ∷ pos 1 ∷ pos 1 ∷ negsuc 2 ∷ negsuc 1 ∷ negsuc 0 ∷ negsuc 0 ∷ []) at (pos 0)))))

abbrev pub size_at : ℕ → ℕ
size_at at = get_or (3 ∷ 3 ∷ 2 ∷ 2 ∷ 3 ∷ 3 ∷ 2 ∷ 2 ∷ []) at 0

-- they are what the three bits spell
abbrev pub Says : ℕ → List Bool → Type 0
Says at bits = (is_negative (value_at at) ≡ first bits) × Spelled (drop 1 bits) (zeros_code 2 (unsigned_abs (value_at at) - 1)) (drop (size_at at) bits)

two : (bits : List Bool) → drop 2 bits ≡ drop 1 (drop 1 bits)
two bits = sym (drop-drop 1 1 bits)

three : (bits : List Bool) → drop 3 bits ≡ drop 1 (drop 1 (drop 1 bits))
three bits = sym (ap (drop 1) (drop-drop 1 1 bits) ∙ drop-drop 1 2 bits)

by-bits : (bits : List Bool) (at : ℕ) (a b c : Bool) → first bits ≡ a → first (drop 1 bits) ≡ b → first (drop 1 (drop 1 bits)) ≡ c
    → at ≡ cond a 4 0 + (cond b 2 0 + (cond c 1 0 + 0)) → Says at bits
unfolding zeros_code
by-bits bits at false false false p q r e = subst (λ n. Says n bits) (sym e) (sym p, (q, (r, three bits)))
by-bits bits at false false true p q r e = subst (λ n. Says n bits) (sym e) (sym p, (q, (r, three bits)))
by-bits bits at false true false p q r e = subst (λ n. Says n bits) (sym e) (sym p, (q, two bits))
by-bits bits at false true true p q r e = subst (λ n. Says n bits) (sym e) (sym p, (q, two bits))
by-bits bits at true false false p q r e = subst (λ n. Says n bits) (sym e) (sym p, (q, (r, three bits)))
by-bits bits at true false true p q r e = subst (λ n. Says n bits) (sym e) (sym p, (q, (r, three bits)))
by-bits bits at true true false p q r e = subst (λ n. Says n bits) (sym e) (sym p, (q, two bits))
by-bits bits at true true true p q r e = subst (λ n. Says n bits) (sym e) (sym p, (q, two bits))

pub two-bits : (bits : List Bool) (at : ℕ) → at ≡ number 3 bits → Says at bits
unfolding number
two-bits bits at e = by-bits bits at (first bits) (first (drop 1 bits)) (first (drop 1 (drop 1 bits))) refl refl refl e

pub two-bits-some : (at : ℕ) → at < 8 → value_at at ≡ pos 0 → ⊥
two-bits-some zero h e = cc
two-bits-some (suc zero) h e = cc
two-bits-some (suc (suc zero)) h e = cc
two-bits-some (suc (suc (suc zero))) h e = cc
two-bits-some (suc (suc (suc (suc zero)))) h e = cc
two-bits-some (suc (suc (suc (suc (suc zero))))) h e = cc
two-bits-some (suc (suc (suc (suc (suc (suc zero)))))) h e = cc
two-bits-some (suc (suc (suc (suc (suc (suc (suc zero))))))) h e = cc
two-bits-some (suc (suc (suc (suc (suc (suc (suc (suc at)))))))) h e = absurd (omega arith)
