-- Bits fill the bytes that `padded` gives, and no others.
use Rattle.std.proofs.Common.{◌≡◌, ◌⊎◌, inl, inr, ℕ, zero, suc, ◌+◌, ◌-◌, ◌<◌, ◌≤◌, Bool, false, List, [], ◌∷◌, ◌++◌, length, drop, refl, sym, ap, ◌∙◌, arith, subst, replicate, append_assoc, get_or}
use Rattle.std.proofs.lemmas.Bool.{cases_lt}
use Rattle.std.proofs.lemmas.List.{append-nil, length-drop, drop_all}
use Rattle.gfx_bits.specs.Bits.{number, digits, bits_of, Spelled, IsPadded}
use Rattle.gfx_bits.specs.Padding.{bytes_within, padded}
use Rattle.gfx_bits.proofs.Laws.{number_below, spelled-number, length-digits, padded-only}

-- a code within the bits is their front
spelled-within : (old code new : List Bool) → Spelled old code new → length code ≤ length old → code ++ new ≡ old
spelled-within old [] new e h = e
spelled-within [] (bit ∷ code) new p h = absurd (omega (arith, h))
spelled-within (first ∷ old) (bit ∷ code) new p h =
    let rest : code ++ new ≡ old = spelled-within old code new p.1 (omega (arith, h)) in
    λ i. sym p.0 i ∷ rest i

-- a code that goes beyond the bits is the bits, and zeros
spelled-beyond : (old code new : List Bool) (n : ℕ) → Spelled old code new → length code ≡ length old + n → code ≡ old ++ replicate n false
spelled-beyond [] [] new zero p e = refl
spelled-beyond [] [] new (suc n) p e = absurd (omega (arith, e))
spelled-beyond [] (bit ∷ code) new zero p e = absurd (omega (arith, e))
spelled-beyond [] (bit ∷ code) new (suc n) p e =
    let rest : code ≡ replicate n false = spelled-beyond [] code new n p.1 (omega (arith, e)) in
    λ i. sym p.0 i ∷ rest i
spelled-beyond (first ∷ old) [] new n p e = absurd (omega (arith, e))
spelled-beyond (first ∷ old) (bit ∷ code) new n p e =
    let rest : code ≡ old ++ replicate n false = spelled-beyond old code new n p.1 (omega (arith, e)) in
    λ i. sym p.0 i ∷ rest i

none-within : (most : ℕ) → bytes_within most [] ≡ []
unfolding bytes_within
none-within zero = refl
none-within (suc most) = refl

-- one byte before bytes that the rest fills
one-more : (bits rest : List Bool) (bytes : List ℕ) → Spelled bits (digits 8 (number 8 bits)) rest → 8 ≤ length bits → IsPadded rest bytes
    → IsPadded bits (number 8 bits ∷ bytes)
unfolding bits_of
one-more bits rest bytes front long filled = (
  filled.0,
  filled.1,
  ap (λ b. digits 8 (number 8 bits) ++ b) filled.2
      ∙ sym (append_assoc (digits 8 (number 8 bits)) rest (replicate filled.0 false))
      ∙ ap (λ b. b ++ replicate filled.0 false)
      (spelled-within bits (digits 8 (number 8 bits)) rest front (omega (arith, long, length-digits 8 (number 8 bits)))),
)

-- the last byte
last-one : (bits rest : List Bool) → Spelled bits (digits 8 (number 8 bits)) rest → 0 < length bits → length bits < 8 → IsPadded bits (number 8 bits ∷ [])
unfolding bits_of
last-one bits rest front some short = (
  8 - length bits,
  omega (arith, some, short),
  append-nil (digits 8 (number 8 bits))
      ∙ spelled-beyond bits (digits 8 (number 8 bits)) rest (8 - length bits) front (omega (arith, short, length-digits 8 (number 8 bits))),
)

within-padded : (most : ℕ) (bits : List Bool) → length bits ≤ most → IsPadded bits (bytes_within most bits)
unfolding bytes_within bits_of
within-padded zero [] h = (0, omega arith, refl)
within-padded zero (bit ∷ bits) h = absurd (omega (arith, h))
within-padded (suc most) [] h = (0, omega arith, refl)
within-padded (suc most) (bit ∷ bits) h = by (cases_lt (length bits) 7) (within-padded most (drop 7 bits) (omega (arith, h, length-drop 7 bits)))
  where
    front : Spelled (bit ∷ bits) (digits 8 (number 8 (bit ∷ bits))) (drop 7 bits)
    front = spelled-number 8 (bit ∷ bits)

    by : ((length bits < 7) ⊎ (7 ≤ length bits)) → IsPadded (drop 7 bits) (bytes_within most (drop 7 bits))
        → IsPadded (bit ∷ bits) (number 8 (bit ∷ bits) ∷ bytes_within most (drop 7 bits))
    by (inl short) rest =
        let none : bytes_within most (drop 7 bits) ≡ [] = ap (bytes_within most) (drop_all 7 bits (omega (arith, short))) ∙ none-within most in
        subst (λ bytes. IsPadded (bit ∷ bits) (number 8 (bit ∷ bits) ∷ bytes)) (sym none)
        (last-one (bit ∷ bits) (drop 7 bits) front (omega arith) (omega (arith, short)))
    by (inr long) rest = one-more (bit ∷ bits) (drop 7 bits) (bytes_within most (drop 7 bits)) front (omega (arith, long)) rest

pub is-padded : (bits : List Bool) → IsPadded bits (padded bits)
unfolding padded
is-padded bits = within-padded (length bits) bits (omega arith)

within-bytes : (most : ℕ) (bits : List Bool) (i : ℕ) → get_or (bytes_within most bits) i 0 < 256
unfolding bytes_within
within-bytes zero bits i = omega arith
within-bytes (suc most) [] i = omega arith
within-bytes (suc most) (bit ∷ bits) zero = omega (arith, number_below 8 (bit ∷ bits))
within-bytes (suc most) (bit ∷ bits) (suc i) = within-bytes most (drop 7 bits) i

pub padded-bytes : (bits : List Bool) (i : ℕ) → get_or (padded bits) i 0 < 256
unfolding padded
padded-bytes bits i = within-bytes (length bits) bits i

pub padded-is : (bits : List Bool) (bytes : List ℕ) → ((i : ℕ) → get_or bytes i 0 < 256) → IsPadded bits bytes → bytes ≡ padded bits
padded-is bits bytes fits filled = padded-only bits bytes (padded bits) fits (padded-bytes bits) filled (is-padded bits)
